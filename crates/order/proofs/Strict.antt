-- The order of floats: `lt` goes on, is never of a number and itself, and never goes against `le`.
use mathlib.Core.Bool.{Bool, true, false, ◌||◌}
use mathlib.Core.Logic.{◌⊎◌, inl, inr, ⊎_elim}
use mathlib.Core.Path.{◌≡◌, refl}
use Prim.Native.Nat.{ℕ, zero, suc, ◌+◌, ◌*◌, ◌<◌}
use native.Mathlib.Nat.{mul_right_comm, mul-pos, mul-lt-mul_of_pos_right, lt_of_mul-lt-mul_right, lt_trans, lt_irrefl}
use native.Mathlib.Omega.{arith}
use borrow.Author.Tests.{ltb-true, lt-ltb, eqb-true}
use lib.Dec.{eqb}
use lib.Ieee.{Float, nan, inf, fin, up, down, lt, le, eq, is_nan}
use lib.Ieee.Fits.{down_pos}
use Rattle.rules.proofs.Branches.{no, both_true}

-- a / A < b / B < c / C
cross : (a b c A B C : ℕ) → 0 < A → 0 < B → 0 < C → a * B < b * A → b * C < c * B → a * C < c * A
cross a b c A B C pA pB pC p q =
    let u : a * C * B < b * A * C = rw (mul_right_comm a C B) (mul-lt-mul_of_pos_right p pC) in
    let v : b * A * C < c * A * B = rw (mul_right_comm b A C, mul_right_comm c A B) (mul-lt-mul_of_pos_right q pA) in
    lt_of_mul-lt-mul_right B (lt_trans u v)

some_left : (a b : ℕ) → a < b → 0 < b
some_left a b h = omega arith

factor : (a B : ℕ) → 0 < a * B → 0 < a
factor zero B h = absurd (omega arith)
factor (suc a) B h = omega arith

pub lt_goes_on : (x y z : Float) → lt x y ≡ true → lt y z ≡ true → lt x z ≡ true
unfolding lt
lt_goes_on nan y z p q = absurd (no p)
lt_goes_on (inf s) nan z p q = absurd (no p)
lt_goes_on (inf true) (inf true) z p q = absurd (no p)
lt_goes_on (inf true) (inf false) nan p q = absurd (no q)
lt_goes_on (inf true) (inf false) (inf u) p q = absurd (no q)
lt_goes_on (inf true) (inf false) (fin u k f) p q = absurd (no q)
lt_goes_on (inf false) (inf t) z p q = absurd (no p)
lt_goes_on (inf s) (fin t n d) nan p q = absurd (no q)
lt_goes_on (inf true) (fin t n d) (inf u) p q = q
lt_goes_on (inf false) (fin t n d) (inf u) p q = absurd (no p)
lt_goes_on (inf s) (fin t n d) (fin u k f) p q = p
lt_goes_on (fin s m e) nan z p q = absurd (no p)
lt_goes_on (fin s m e) (inf true) z p q = absurd (no p)
lt_goes_on (fin s m e) (inf false) nan p q = absurd (no q)
lt_goes_on (fin s m e) (inf false) (inf u) p q = absurd (no q)
lt_goes_on (fin s m e) (inf false) (fin u k f) p q = absurd (no q)
lt_goes_on (fin s m e) (fin t n d) nan p q = absurd (no q)
lt_goes_on (fin s m e) (fin t n d) (inf u) p q = q
lt_goes_on (fin false m e) (fin false n d) (fin false k f) p q =
    lt-ltb _ _ (cross (m * up e) (n * up d) (k * up f) (down e) (down d) (down f) (down_pos e) (down_pos d) (down_pos f) (ltb-true _ _ p) (ltb-true _ _ q))
lt_goes_on (fin false m e) (fin false n d) (fin true k f) p q = absurd (no q)
lt_goes_on (fin false m e) (fin true n d) (fin u k f) p q = absurd (no p)
lt_goes_on (fin true m e) (fin false n d) (fin false k f) p q =
    let c = factor (k * up f) (down d) (some_left _ _ (ltb-true _ _ q)) in
    lt-ltb 0 (m * up e * down f + k * up f * down e) (omega (arith, mul-pos c (down_pos e)))
lt_goes_on (fin true m e) (fin false n d) (fin true k f) p q = absurd (no q)
lt_goes_on (fin true m e) (fin true n d) (fin false k f) p q =
    let a = factor (m * up e) (down d) (some_left _ _ (ltb-true _ _ p)) in
    lt-ltb 0 (m * up e * down f + k * up f * down e) (omega (arith, mul-pos a (down_pos f)))
lt_goes_on (fin true m e) (fin true n d) (fin true k f) p q =
    lt-ltb _ _ (cross (k * up f) (n * up d) (m * up e) (down f) (down d) (down e) (down_pos f) (down_pos d) (down_pos e) (ltb-true _ _ q) (ltb-true _ _ p))

pub lt_never_same : (x : Float) → lt x x ≡ true → ⊥
unfolding lt
lt_never_same nan p = no p
lt_never_same (inf true) p = no p
lt_never_same (inf false) p = no p
lt_never_same (fin false m e) p = lt_irrefl (m * up e * down e) (ltb-true _ _ p)
lt_never_same (fin true m e) p = lt_irrefl (m * up e * down e) (ltb-true _ _ p)

-- what is above another is a number
pub lt_number : (x y : Float) → lt x y ≡ true → is_nan y ≡ false
unfolding lt is_nan
lt_number nan y e = absurd (no e)
lt_number (inf s) nan e = absurd (no e)
lt_number (inf s) (inf t) e = refl
lt_number (inf s) (fin t n d) e = refl
lt_number (fin s m e) nan p = absurd (no p)
lt_number (fin s m e) (inf t) p = refl
lt_number (fin s m e) (fin t n d) p = refl

either_true : (a b : Bool) → (a || b) ≡ true → (a ≡ true) ⊎ (b ≡ true)
either_true true b e = inl e
either_true false b e = inr e

eq_not_lt : (x y : Float) → eq x y ≡ true → lt y x ≡ true → ⊥
unfolding eq lt
eq_not_lt nan y p q = no p
eq_not_lt (inf s) nan p q = no p
eq_not_lt (inf true) (inf true) p q = no q
eq_not_lt (inf true) (inf false) p q = no p
eq_not_lt (inf false) (inf true) p q = no p
eq_not_lt (inf false) (inf false) p q = no q
eq_not_lt (inf s) (fin t n d) p q = no p
eq_not_lt (fin s m e) nan p q = no p
eq_not_lt (fin s m e) (inf t) p q = no p
eq_not_lt (fin false m e) (fin false n d) p q =
    lt_irrefl (m * up e * down d)
    (rw (← eqb-true (m * up e * down d) (n * up d * down e) (both_true _ _ p).0) at (ltb-true (n * up d * down e) (m * up e * down d) q))
eq_not_lt (fin true m e) (fin true n d) p q =
    lt_irrefl (m * up e * down d)
    (rw (← eqb-true (m * up e * down d) (n * up d * down e) (both_true _ _ p).0) at (ltb-true (m * up e * down d) (n * up d * down e) q))
eq_not_lt (fin true m e) (fin false n d) p q = no q
eq_not_lt (fin false m e) (fin true n d) p q =
    let b = both_true (eqb (m * up e * down d) (n * up d * down e)) (eqb (m * up e * down d) 0) p in
    let u = eqb-true (m * up e * down d) (n * up d * down e) b.0 in
    let v = eqb-true (m * up e * down d) 0 b.1 in
    let w = ltb-true 0 (n * up d * down e + m * up e * down d) q in
    omega arith

pub le_not_lt : (x y : Float) → le x y ≡ true → lt y x ≡ true → ⊥
unfolding le
le_not_lt x y p q = ⊎_elim (λ a. lt_never_same x (lt_goes_on x y x a q)) (λ a. eq_not_lt x y a q) (either_true (lt x y) (eq x y) p)
