-- What lies a margin under a height has no contact above it:
-- the cutter's height over its tip is nowhere below 0, so no candidate is above a point of the triangle.
use mathlib.Core.Bool.{true, false, cond}
use mathlib.Core.Logic.{◌⊎◌, inl, inr}
use mathlib.Core.Path.{◌≡◌, refl, ap, sym, ◌∙◌}
use lib.Dec.{T}
use lib.Ieee.{Float, nan, inf, fin, binary64, add, sub, neg, lt, le, eq, fits, is_nan}
use lib.Ieee.Scale.{finite}
use Rattle.numbers.specs.Reals.{◌⊖◌, f0, min_of, f0_is}
use Rattle.roots.specs.Hypot.{infinite, hypot_of}
use Rattle.rules.proofs.Branches.{either, by_test, no, holds}
use Rattle.order.proofs.Strict.{lt_never_same}
use Rattle.order.proofs.Ranges.{sub_mono}
use Rattle.order.proofs.Order.{O, le_trans, sub_turns}
use Rattle.order.proofs.Roots.{distance_low}
use Rattle.order.proofs.Extremes.{not_above}
use Rattle.bound.proofs.Small.{M}
use Rattle.caps.proofs.Places.{not_less, number_of}
use Rattle.caps.proofs.Bracket.{less_none}
use Rattle.bull.specs.declared.Bull.{Bull}
use Rattle.bull.specs.Bull.{bull_profile}
use Rattle.bull.specs.Inside.{base_of}
use Rattle.bull.proofs.Bases.{Based, based, base_low}

-- ---- a height less a number that is not below 0
pub nothing_under : (f : Float) → lt f (inf true) ≡ false
unfolding lt
nothing_under nan = refl
nothing_under (inf true) = refl
nothing_under (inf false) = refl
nothing_under (fin s m e) = refl

minus_infinite : (p : Float) → T (finite p) → inf true ⊖ p ≡ inf true
unfolding sub add neg
minus_infinite nan h = absurd h
minus_infinite (inf s) h = absurd h
minus_infinite (fin s m e) h = refl

no_nan_above : (f v : Float) → is_nan v ≡ true → lt f v ≡ false
unfolding is_nan lt
no_nan_above nan v h = refl
no_nan_above (inf s) nan h = refl
no_nan_above (inf s) (inf t) h = absurd (no h)
no_nan_above (inf s) (fin t n d) h = absurd (no h)
no_nan_above (fin s m e) nan h = refl
no_nan_above (fin s m e) (inf t) h = absurd (no h)
no_nan_above (fin s m e) (fin t n d) h = absurd (no h)

pub less_nan : (z p : Float) → is_nan p ≡ true → is_nan (z ⊖ p) ≡ true
unfolding is_nan sub add neg
less_nan nan p h = refl
less_nan (inf s) nan h = refl
less_nan (inf s) (inf t) h = absurd (no h)
less_nan (inf s) (fin t n d) h = absurd (no h)
less_nan (fin s m e) nan h = refl
less_nan (fin s m e) (inf t) h = absurd (no h)
less_nan (fin s m e) (fin t n d) h = absurd (no h)

pub lowered : (z w p f : Float) → T (fits binary64 w) → T (finite f) → T (le z w) → T (le w f) → T (le O p) → T (finite p) → lt f (z ⊖ p) ≡ false
lowered nan w p f g h k l a b = absurd (unfold le lt eq in k)
lowered (inf false) nan p f g h k l a b = absurd (unfold le lt eq in k)
lowered (inf false) (inf true) p f g h k l a b = absurd (unfold le lt eq in k)
lowered (inf false) (inf false) p nan g h k l a b = absurd h
lowered (inf false) (inf false) p (inf t) g h k l a b = absurd h
lowered (inf false) (inf false) p (fin t n d) g h k l a b = absurd (unfold le lt eq in l)
lowered (inf false) (fin t n d) p f g h k l a b = absurd (unfold le lt eq in k)
lowered (inf true) w p f g h k l a b = ap (lt f) (minus_infinite p b) ∙ nothing_under f
lowered (fin s m e) nan p f g h k l a b = absurd (unfold le lt eq in k)
lowered (fin s m e) (inf true) p f g h k l a b = absurd (unfold le lt eq in k)
lowered (fin s m e) (inf false) p nan g h k l a b = absurd h
lowered (fin s m e) (inf false) p (inf t) g h k l a b = absurd h
lowered (fin s m e) (inf false) p (fin t n d) g h k l a b = absurd (unfold le lt eq in l)
lowered (fin s m e) (fin t n d) p f g h k l a b =
    let z : Float = fin s m e in
    let w : Float = fin t n d in
    not_above (z ⊖ p) f
    (le_trans (z ⊖ p) (w ⊖ p) f (sub_mono binary64 z w p tt tt b k)
    (le_trans (w ⊖ p) (w ⊖ O) f (sub_turns binary64 O p w tt b tt a) (le_trans (w ⊖ O) w f (less_none w g tt) l)))

-- a number that is not below 0, or none at all
abbrev pub Dropped : Float → Type 0
Dropped p = (is_nan p ≡ true) ⊎ (T (le O p) × T (finite p))

pub dropped : (z w p f : Float) → T (fits binary64 w) → T (finite f) → T (le z w) → T (le w f) → Dropped p → lt f (z ⊖ p) ≡ false
dropped z w p f g h k l (inl n) = no_nan_above f (z ⊖ p) (less_nan z p n)
dropped z w p f g h k l (inr q) = lowered z w p f g h k l q.0 q.1

-- ---- a distance is not below 0, if it is a number
pub distance_up : (x y : Float) → is_nan (hypot_of x y) ≡ false → T (le O (hypot_of x y))
distance_up nan nan n = absurd (no (sym (unfold hypot_of infinite is_nan in n)))
distance_up nan (inf s) n = unfold hypot_of infinite le lt eq in tt
distance_up nan (fin s m e) n = absurd (no (sym (unfold hypot_of infinite is_nan in n)))
distance_up (inf s) y n = unfold hypot_of infinite le lt eq in tt
distance_up (fin s m e) nan n = absurd (no (sym (unfold hypot_of infinite is_nan in n)))
distance_up (fin s m e) (inf t) n = unfold hypot_of infinite le lt eq in tt
distance_up (fin s m e) (fin t n d) h = distance_low (fin s m e) (fin t n d) tt tt

-- ---- the cutter's height over its tip, from its axis to its rim
module _ (k : Bull) (level : le f0 (base_of k) ≡ true) where
  base_up : T (le O (base_of k))
  base_up = rw f0_is at (holds _ level)

  pub is_based : Based k
  is_based = based k (number_of O (base_of k) base_up).1

  pub profile_up : (d : Float) → T (le O d) → T (le d k.r) → T (le O (bull_profile d k.r k.rc)) × T (finite (bull_profile d k.r k.rc))
  profile_up d l h =
      let b = base_low k is_based d l (le_trans d k.r M h is_based.r₁) in
      (le_trans O (base_of k) _ base_up b.0, b.1)

  -- the distance cut at the rim
  pub rim : (d : Float) → (is_nan d ≡ false → T (le O d)) → T (le O (min_of d k.r)) × T (le (min_of d k.r) k.r)
  unfolding min_of
  rim d l =
      let n = (number_of O k.r is_based.r₀).1 in
      let s = le_same k.r n in
      either (λ v. T (le O v) × T (le v k.r)) (is_nan d) k.r (cond (lt k.r d) k.r d) (λ e. (is_based.r₀, s))
      (λ e. either (λ v. T (le O v) × T (le v k.r)) (lt k.r d) k.r d (λ h. (is_based.r₀, s)) (λ h. (l e, not_less k.r d n e h)))
    where
      le_same : (x : Float) → is_nan x ≡ false → T (le x x)
      le_same x e = not_less x x e e (not_self x)
        where
          not_self : (x : Float) → lt x x ≡ false
          not_self x = by_test (lt x x) (λ h. absurd (lt_never_same x h)) (λ h. h)
