-- Floats that compare equal, and points: what compares equal to one of two equal ones compares equal to the other.
use mathlib.Core.Bool.{true, false}
use mathlib.Core.Path.{◌≡◌, refl, sym, ◌∙◌}
use Prim.Native.Nat.{◌*◌}
use borrow.Author.Tests.{eqb-true, eq-eqb}
use lib.Dec.{T, eqb}
use lib.Ieee.{Float, nan, inf, fin, up, down, lt, le, eq, is_nan}
use lib.Ieee.Scale.{finite}
use lib.Ieee.Bits.{is_true}
use Rattle.numbers.specs.Reals.{max_of}
use Rattle.rules.proofs.Branches.{by_test, no, both_true}
use Rattle.order.proofs.Strict.{le_not_lt}
use Rattle.order.proofs.Extremes.{le_self}
use Rattle.order.proofs.Order.{le_trans}
use Rattle.moves.specs.declared.Point.{Point}
use Rattle.moves.specs.Phases.{same_of}

pub eq_le : (x y : Float) → eq x y ≡ true → T (le x y)
unfolding le
eq_le x y e = by_test (lt x y) (λ f. rw f tt) (λ f. rw (f, e) tt)

lt_le : (x y : Float) → lt x y ≡ true → T (le x y)
unfolding le
lt_le x y e = rw e tt

pub eq_sym : (x y : Float) → eq x y ≡ true → eq y x ≡ true
unfolding eq
eq_sym nan y e = absurd (no e)
eq_sym (inf s) nan e = absurd (no e)
eq_sym (inf true) (inf true) e = refl
eq_sym (inf true) (inf false) e = absurd (no e)
eq_sym (inf false) (inf true) e = absurd (no e)
eq_sym (inf false) (inf false) e = refl
eq_sym (inf s) (fin t n d) e = absurd (no e)
eq_sym (fin s m k) nan e = absurd (no e)
eq_sym (fin s m k) (inf t) e = absurd (no e)
eq_sym (fin true m k) (fin true n d) e = rw (eq-eqb (n * up d * down k) (m * up k * down d) (sym (eqb-true _ _ (both_true _ _ e).0)))
eq_sym (fin false m k) (fin false n d) e = rw (eq-eqb (n * up d * down k) (m * up k * down d) (sym (eqb-true _ _ (both_true _ _ e).0)))
eq_sym (fin true m k) (fin false n d) e =
    let u = eqb-true (m * up k * down d) (n * up d * down k) (both_true (eqb (m * up k * down d) (n * up d * down k)) (eqb (m * up k * down d) 0) e).0 in
    let v = eqb-true (m * up k * down d) 0 (both_true (eqb (m * up k * down d) (n * up d * down k)) (eqb (m * up k * down d) 0) e).1 in
    rw (eq-eqb (n * up d * down k) (m * up k * down d) (sym u), eq-eqb (n * up d * down k) 0 (sym u ∙ v))
eq_sym (fin false m k) (fin true n d) e =
    let u = eqb-true (m * up k * down d) (n * up d * down k) (both_true (eqb (m * up k * down d) (n * up d * down k)) (eqb (m * up k * down d) 0) e).0 in
    let v = eqb-true (m * up k * down d) 0 (both_true (eqb (m * up k * down d) (n * up d * down k)) (eqb (m * up k * down d) 0) e).1 in
    rw (eq-eqb (n * up d * down k) (m * up k * down d) (sym u), eq-eqb (n * up d * down k) 0 (sym u ∙ v))

le_both : (x y : Float) → T (le x y) → T (le y x) → eq x y ≡ true
unfolding le
le_both x y p q =
    by_test (eq x y) (λ e. e)
    (λ e. by_test (lt x y) (λ l. absurd (le_not_lt y x (is_true (le y x) q) l)) (λ l. absurd (rw (l, e) at p)))

eq_trans : (x y z : Float) → eq x y ≡ true → eq y z ≡ true → eq x z ≡ true
eq_trans x y z p q =
    le_both x z (le_trans x y z (eq_le x y p) (eq_le y z q)) (le_trans z y x (eq_le z y (eq_sym y z q)) (eq_le y x (eq_sym x y p)))

eq_to : (a p b : Float) → eq a p ≡ true → eq b p ≡ eq b a
eq_to a p b e =
    by_test (eq b a) (λ f. eq_trans b a p f e ∙ sym f)
    (λ f. by_test (eq b p) (λ g. absurd (no (sym f ∙ eq_trans b p a g (eq_sym a p e)))) (λ g. g ∙ sym f))

pub eq_self : (x : Float) → T (finite x) → eq x x ≡ true
eq_self x f = le_both x x (le_self x f) (le_self x f)

-- a maximum is at least its first number
pub max_above : (x y : Float) → T (finite x) → T (le x (max_of x y))
unfolding max_of is_nan
max_above nan y f = absurd f
max_above (inf s) y f = absurd f
max_above (fin s m e) y f = by_test (lt (fin s m e) y) (λ l. rw l (lt_le (fin s m e) y l)) (λ l. rw l (le_self (fin s m e) tt))

-- ---- points

pub same_parts : (a p : Point) → same_of a p ≡ true → (eq a.x p.x ≡ true) × (eq a.y p.y ≡ true) × (eq a.z p.z ≡ true)
unfolding same_of
same_parts a p e =
    let k = both_true _ _ e in
    let l = both_true _ _ k.1 in
    (k.0, l.0, l.1)

pub same_of_lem : (a p : Point) → eq a.x p.x ≡ true → eq a.y p.y ≡ true → eq a.z p.z ≡ true → same_of a p ≡ true
unfolding same_of
same_of_lem a p e f g = rw (e, f, g)

pub same_to : (a p b : Point) → same_of a p ≡ true → same_of b p ≡ same_of b a
unfolding same_of
same_to a p b e =
    let k = both_true _ _ e in
    let l = both_true _ _ k.1 in
    rw (eq_to a.x p.x b.x k.0, eq_to a.y p.y b.y l.0, eq_to a.z p.z b.z l.1)
