-- A height less a drop, beside a limit, whatever the height.
use mathlib.Core.Bool.{Bool, true}
use mathlib.Core.Path.{◌≡◌, refl, sym, ◌∙◌, subst}
use lib.Dec.{T}
use lib.Ieee.{Float, nan, inf, fin, binary64, sub, neg, add, lt, le, eq, is_nan}
use lib.Ieee.Scale.{finite}
use lib.Ieee.Bits.{is_true}
use Rattle.numbers.specs.Reals.{◌⊕◌, ◌⊖◌}
use Rattle.rules.proofs.Branches.{no, holds}
use Rattle.order.proofs.Order.{le_trans, sub_turns}

-- ---- a NaN leaves nothing out
pub drop_nan : (z n b : Float) → is_nan n ≡ true → le (z ⊖ n) b ≡ true → ⊥
unfolding is_nan sub neg add le lt eq
drop_nan nan nan b e h = no h
drop_nan (inf s) nan b e h = no h
drop_nan (fin s m c) nan b e h = no h
drop_nan z (inf s) b e h = no e
drop_nan z (fin s m c) b e h = no e

pub sum_nan : (z n x b : Float) → is_nan n ≡ true → le (z ⊖ n ⊕ x) b ≡ true → ⊥
unfolding is_nan sub neg add le lt eq
sum_nan nan nan x b e h = no h
sum_nan (inf s) nan x b e h = no h
sum_nan (fin s m c) nan x b e h = no h
sum_nan z (inf s) x b e h = no e
sum_nan z (fin s m c) x b e h = no e

endless : (s : Bool) (p : Float) → T (finite p) → inf s ⊖ p ≡ inf s
unfolding sub neg add
endless s nan f = absurd f
endless s (inf t) f = absurd f
endless s (fin t n d) f = refl

-- ---- a larger drop leaves less, whatever the height
pub drop_more : (z p q b : Float) → T (finite p) → T (finite q) → T (le p q) → le (z ⊖ p) b ≡ true → le (z ⊖ q) b ≡ true
drop_more nan p q b f g h k = absurd (no (unfold sub add le lt eq in k))
drop_more (inf s) p q b f g h k = subst (λ (v : Float). le v b ≡ true) (endless s p f ∙ sym (endless s q g)) k
drop_more (fin s m e) p q b f g h k =
    is_true _ (le_trans (fin s m e ⊖ q) (fin s m e ⊖ p) b (sub_turns binary64 p q (fin s m e) f g tt h) (holds _ k))
