-- Where the square of a distance tells whether the distance is within r: roots keep the order, so one root tells of all squares below, and one of all above.
use mathlib.Core.Bool.{true, false}
use mathlib.Core.Path.{◌≡◌, sym, ◌∙◌, subst}
use lib.Dec.{T}
use lib.Ieee.{Float, binary64, of_bits, div, lt, le, eq, fits}
use lib.Ieee.Bits.{is_true}
use Rattle.rules.proofs.Branches.{by_test, no, holds}
use Rattle.numbers.specs.Reals.{◌⊘◌, f0, minus1, f0_is}
use Rattle.roots.specs.Root.{root_of}
use Rattle.order.proofs.Order.{O, le_trans}
use Rattle.reach.specs.declared.Limit.{Limit}
use Rattle.reach.specs.Inside.{Flat, Far, Settles}
use Rattle.reach.proofs.Apart.{roots_rise}

from_zero : (q : Float) → le f0 q ≡ true → T (le O q)
from_zero q z = subst (λ (w : Float). T (le w q)) f0_is (holds _ z)

pub flat_up_to : (r f : Float) → T (fits binary64 f) → le (root_of f) r ≡ true → Flat r f
unfolding Flat
flat_up_to r f t h q g z l = is_true _ (le_trans (root_of q) (root_of f) r (roots_rise q f g t (from_zero q z) (holds _ l)) (holds _ h))

none_below : T (le f0 minus1) → ⊥
unfolding of_bits le lt eq
none_below h = h

pub flat_none : (r : Float) → Flat r minus1
unfolding Flat
flat_none r q g z l = absurd (none_below (le_trans f0 q minus1 (holds _ z) (holds _ l)))

pub far_from : (r f : Float) → T (fits binary64 f) → le f0 f ≡ true → le (root_of f) r ≡ false → Far r f
unfolding Far
far_from r f t z h q g l =
    by_test (le (root_of q) r)
    (λ e. absurd (no (sym h ∙ is_true _ (le_trans (root_of f) (root_of q) r (roots_rise f q t g (from_zero f z) (holds _ l)) (holds _ e)))))
    (λ e. e)

none_reached : (v : Float) → le (f0 ⊘ f0) v ≡ true → ⊥
unfolding of_bits div le lt eq
none_reached v h = no h

pub far_none : (r : Float) → Far r (f0 ⊘ f0)
unfolding Far
far_none r q g l = absurd (none_reached q l)

-- ---- as the code asks
pub told_near : (k : Limit) (q : Float) → Settles k → T (fits binary64 q) → le f0 q ≡ true → le q k.flat ≡ true → true ≡ le (root_of q) k.r
unfolding Flat
told_near k q s f z h = sym (s.near q f z h)

pub told_far : (k : Limit) (q : Float) → Settles k → T (fits binary64 q) → le k.far q ≡ true → false ≡ le (root_of q) k.r
unfolding Far
told_far k q s f h = sym (s.out q f h)
