-- At most, below and not below; the larger and the smaller of two numbers keep the order.
use mathlib.Core.Bool.{true, false, cond}
use mathlib.Core.Path.{◌≡◌, refl}
use Prim.Native.Nat.{◌+◌, ◌*◌}
use native.Mathlib.Nat.{zero-mul}
use native.Mathlib.Omega.{arith}
use borrow.Author.Tests.{ltb-false, le-ltb}
use lib.Dec.{T}
use lib.Ieee.{Float, nan, inf, fin, up, down, lt, le, is_nan, eq}
use lib.Ieee.Scale.{finite}
use lib.Ieee.Positive.{positive, above, above_of_le}
use Rattle.rules.proofs.Branches.{by_test, no, either}
use Rattle.numbers.specs.Reals.{max_of, min_of}
use Rattle.order.proofs.Signed.{le→parts, parts→le}
use Rattle.order.proofs.Order.{le_trans}

pub lt_le : (x y : Float) → lt x y ≡ true → T (le x y)
unfolding le
lt_le x y e = rw e tt

pub le_self : (y : Float) → T (finite y) → T (le y y)
le_self y p = parts→le y y p p (omega arith)

-- not below is at least
pub not_below_lem : (x y : Float) → T (finite x) → T (finite y) → lt x y ≡ false → T (le y x)
unfolding lt
not_below_lem nan y p q e = absurd p
not_below_lem (inf s) y p q e = absurd p
not_below_lem (fin s m k) nan p q e = absurd q
not_below_lem (fin s m k) (inf t) p q e = absurd q
not_below_lem (fin false m k) (fin false n d) p q e =
    parts→le (fin false n d) (fin false m k) tt tt (omega (arith, ltb-false (m * up k * down d) (n * up d * down k) e, zero-mul (down k), zero-mul (down d)))
not_below_lem (fin false m k) (fin true n d) p q e = parts→le (fin true n d) (fin false m k) tt tt (omega (arith, zero-mul (down k), zero-mul (down d)))
not_below_lem (fin true m k) (fin false n d) p q e =
    parts→le (fin false n d) (fin true m k) tt tt (omega (arith, ltb-false 0 (m * up k * down d + n * up d * down k) e, zero-mul (down k), zero-mul (down d)))
not_below_lem (fin true m k) (fin true n d) p q e =
    parts→le (fin true n d) (fin true m k) tt tt (omega (arith, ltb-false (n * up d * down k) (m * up k * down d) e, zero-mul (down k), zero-mul (down d)))

-- what is at most b is not above it
pub not_above : (v b : Float) → T (le v b) → lt b v ≡ false
unfolding le lt eq
not_above nan b h = absurd h
not_above (inf true) nan h = refl
not_above (inf true) (inf true) h = refl
not_above (inf true) (inf false) h = refl
not_above (inf true) (fin t n d) h = refl
not_above (inf false) nan h = refl
not_above (inf false) (inf true) h = absurd h
not_above (inf false) (inf false) h = refl
not_above (inf false) (fin t n d) h = absurd h
not_above (fin s m e) nan h = refl
not_above (fin s m e) (inf true) h = absurd h
not_above (fin s m e) (inf false) h = refl
not_above (fin false m e) (fin false n d) h =
    le-ltb (n * up d * down e) (m * up e * down d) (omega (arith, le→parts (fin false m e) (fin false n d) tt tt h, zero-mul (down d), zero-mul (down e)))
not_above (fin true m e) (fin false n d) h = refl
not_above (fin false m e) (fin true n d) h =
    le-ltb 0 (n * up d * down e + m * up e * down d) (omega (arith, le→parts (fin false m e) (fin true n d) tt tt h, zero-mul (down d), zero-mul (down e)))
not_above (fin true m e) (fin true n d) h =
    le-ltb (m * up e * down d) (n * up d * down e) (omega (arith, le→parts (fin true m e) (fin true n d) tt tt h, zero-mul (down d), zero-mul (down e)))

pub le_not_nan : (v b : Float) → T (le v b) → is_nan b ≡ false
unfolding le lt eq is_nan
le_not_nan nan nan h = absurd h
le_not_nan (inf s) nan h = absurd h
le_not_nan (fin s m e) nan h = absurd h
le_not_nan v (inf s) h = refl
le_not_nan v (fin s m e) h = refl

pub above_finite : (a x : Float) → T (positive a) → T (le a x) → T (finite x) → T (positive x)
above_finite a x p h f = go x f (above_of_le a x p h)
  where
    go : (x : Float) → T (finite x) → T (above x) → T (positive x)
    go nan f t = absurd f
    go (inf s) f t = absurd f
    go (fin true m e) f t = absurd t
    go (fin false m e) f t = t

-- ---- the larger and the smaller of two
pub either_of : (P : Float → Type 0) (x y : Float) → P x → P y → P (max_of x y)
unfolding max_of
either_of P x y p q = by_test (is_nan x) (λ e. rw e q) (λ e. by_test (lt x y) (λ f. rw (e, f) q) (λ f. rw (e, f) p))

pub min_either : (P : Float → Type 0) (x y : Float) → P x → P y → P (min_of x y)
unfolding min_of
min_either P x y p q = by_test (is_nan x) (λ e. rw e q) (λ e. by_test (lt y x) (λ f. rw (e, f) q) (λ f. rw (e, f) p))

pub max_not_nan : (x y : Float) → is_nan x ≡ false → is_nan y ≡ false → is_nan (max_of x y) ≡ false
max_not_nan x y p q = either_of (λ v. is_nan v ≡ false) x y p q

pub min_not_nan : (x y : Float) → is_nan x ≡ false → is_nan y ≡ false → is_nan (min_of x y) ≡ false
min_not_nan x y p q = min_either (λ v. is_nan v ≡ false) x y p q

not_nan : (x : Float) → T (finite x) → is_nan x ≡ false
unfolding is_nan
not_nan nan p = absurd p
not_nan (inf s) p = absurd p
not_nan (fin s m e) p = refl

-- a maximum is at least its second number
pub max_least : (x y : Float) → T (finite x) → T (finite y) → T (le y (max_of x y))
unfolding max_of
max_least x y p q = by_test (is_nan x) (λ e. rw e (le_self y q)) (λ e. by_test (lt x y) (λ f. rw (e, f) (le_self y q)) (λ f. rw (e, f) (not_below_lem x y p q f)))

module _ (x y : Float) (p : T (finite x)) (q : T (finite y)) where
  pub min_first : T (le (min_of x y) x)
  unfolding min_of
  min_first = rw (not_nan x p) (by_test (lt y x) (λ f. rw f (lt_le y x f)) (λ f. rw f (le_self x p)))

  pub min_second : T (le (min_of x y) y)
  unfolding min_of
  min_second = rw (not_nan x p) (by_test (lt y x) (λ f. rw f (le_self y q)) (λ f. rw f (not_below_lem y x q p f)))

  pub max_first : T (le x (max_of x y))
  unfolding max_of
  max_first = rw (not_nan x p) (by_test (lt x y) (λ f. rw f (lt_le x y f)) (λ f. rw f (le_self x p)))

pub min_up : (x y z : Float) → T (finite x) → T (finite z) → T (le x y) → T (le (min_of x z) (min_of y z))
min_up x y z p r h =
    min_either (λ v. T (le (min_of x z) v)) y z (le_trans (min_of x z) x y (min_first x z p r) h) (min_second x z p r)

pub max_up : (x y z : Float) → T (finite y) → T (finite z) → T (le x y) → T (le (max_of x z) (max_of y z))
max_up x y z q r h =
    either_of (λ v. T (le v (max_of y z))) x z (le_trans x y (max_of y z) h (max_first y z q r)) (max_least y z q r)

-- so the best so far stays beside it
pub max_stays : (b v : Float) → is_nan b ≡ false → lt b v ≡ false → max_of b v ≡ b
unfolding max_of
max_stays b v e l = rw (e, l)

-- the smaller of such a distance and any number
never_nan : (h r : Float) → T (le h r) → is_nan h ≡ true → ⊥
unfolding le lt eq is_nan
never_nan nan r k e = absurd k
never_nan (inf s) r k e = no e
never_nan (fin s m c) r k e = no e

pub min_under : (h z r : Float) → T (le h r) → T (le (min_of h z) r)
unfolding min_of
min_under h z r k =
    either (λ v. T (le v r)) (is_nan h) z (cond (lt z h) z h) (λ e. absurd (never_nan h r k e))
    (λ e. either (λ v. T (le v r)) (lt z h) z h (λ l. le_trans z h r (lt_le z h l) k) (λ l. k))
