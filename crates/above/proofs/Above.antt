-- Candidates taken on top of a best so far give what their own contact gives beside it. Heights take each other's place in one order on all floats, a NaN below
-- every number, so it does not matter which two are compared first.
use Rattle.std.specs.Prelude.{None, Option, Some}
use mathlib.Core.Bool.{Bool, true, false, cond}
use mathlib.Core.Path.{◌≡◌, refl, sym, ap, ◌∙◌}
use Prim.Native.Nat.{ℕ, zero, suc, ◌+◌, ◌*◌, ◌≤◌, ◌<◌}
use native.Mathlib.Nat.{mul_right_comm, mul-pos, mul-lt-mul_of_pos_right, mul-le-mul_right, lt_of_mul-lt-mul_right, lt_of_lt_of_le, lt_of_le_of_lt, zero-mul}
use native.Mathlib.Omega.{arith}
use borrow.Author.Tests.{ltb-true, ltb-false, lt-ltb}
use lib.IntN.{ℤ}
use lib.Ieee.{Float, nan, inf, fin, up, down, lt, le, eq, div, is_nan, of_bits}
use lib.Ieee.Fits.{down_pos}
use Rattle.rules.proofs.Branches.{by_test, no}
use Rattle.order.proofs.Strict.{lt_goes_on, lt_number, le_not_lt}
use Rattle.numbers.specs.Reals.{◌⊘◌, f0}
use Rattle.plane.specs.declared.Touch.{Touch}
use Rattle.plane.specs.declared.Contact.{Contact}
use Rattle.plane.specs.Contacts.{exceeds_of, take_of, at_height}
use Rattle.plane.proofs.Higher.{same_waits}
use Rattle.above.specs.Above.{offer_of, so_far}
use Rattle.above.specs.Inside.{limit_of, touches_of}

-- a / A < b / B <= c / C
cross : (a b c A B C : ℕ) → 0 < A → 0 < C → a * B < b * A → b * C ≤ c * B → a * C < c * A
cross a b c A B C pA pC p q =
    let u : a * C * B < b * A * C = rw (mul_right_comm a C B) (mul-lt-mul_of_pos_right p pC) in
    let v : b * A * C ≤ c * A * B = rw (mul_right_comm b A C, mul_right_comm c A B) (mul-le-mul_right A q) in
    lt_of_mul-lt-mul_right B (lt_of_lt_of_le u v)

factor : (a B n : ℕ) → n < a * B → 0 < a
factor zero B n h = absurd (omega (arith, zero-mul B))
factor (suc a) B n h = omega arith

-- a / A <= b / B < c / C
cross' : (a b c A B C : ℕ) → 0 < A → 0 < C → a * B ≤ b * A → b * C < c * B → a * C < c * A
cross' a b c A B C pA pC p q =
    let u : a * C * B ≤ b * A * C = rw (mul_right_comm a C B) (mul-le-mul_right C p) in
    let v : b * A * C < c * A * B = rw (mul_right_comm b A C, mul_right_comm c A B) (mul-lt-mul_of_pos_right q pA) in
    lt_of_mul-lt-mul_right B (lt_of_le_of_lt u v)

-- -m / E < k / D <= l / C, and the same with a k of 0 over an l that is not above it
sum_above : (m k l E D C : ℕ) → 0 < E → 0 < C → 0 < m * D + k * E → k * C ≤ l * D → 0 < m * C + l * E
sum_above zero k l E D C pE pC p q =
    let a = factor k E 0 (omega (arith, zero-mul D)) in
    let b = factor l D 0 (omega (arith, mul-pos a pC)) in
    omega (arith, zero-mul C, mul-pos b pE)
sum_above (suc m) k l E D C pE pC p q = omega (arith, mul-pos {m = suc m} {n = C} (omega arith) pC)

none_above : (m k l E D C : ℕ) → 0 < D → 0 < C → 0 < m * D + k * E → l * D + k * C ≤ 0 → l * E < m * C
none_above m k (suc l) E D C pD pC p q = absurd (omega (arith, mul-pos {m = suc l} {n = D} (omega arith) pD))
none_above m (suc k) zero E D C pD pC p q = absurd (omega (arith, mul-pos {m = suc k} {n = C} (omega arith) pC))
none_above m zero zero E D C pD pC p q = omega (arith, zero-mul E, mul-pos (factor m D 0 (omega (arith, zero-mul E))) pC)

le_number : (x y : Float) → le x y ≡ true → is_nan y ≡ false
unfolding le lt eq is_nan
le_number nan y h = absurd (no h)
le_number (inf s) nan h = absurd (no h)
le_number (inf s) (inf t) h = refl
le_number (inf s) (fin t k d) h = refl
le_number (fin s m e) nan h = absurd (no h)
le_number (fin s m e) (inf t) h = refl
le_number (fin s m e) (fin t k d) h = refl

-- a number that is not below z is above what z is above
finite_between : (s : Bool) (m : ℕ) (e : ℤ) (t : Bool) (k : ℕ) (d : ℤ) (u : Bool) (l : ℕ) (c : ℤ) → lt (fin s m e) (fin t k d) ≡ true
    → lt (fin u l c) (fin t k d) ≡ false → lt (fin s m e) (fin u l c) ≡ true
unfolding lt
finite_between false m e false k d false l c p q =
    lt-ltb _ _ (cross (m * up e) (k * up d) (l * up c) (down e) (down d) (down c) (down_pos e) (down_pos c) (ltb-true _ _ p) (ltb-false _ _ q))
finite_between false m e false k d true l c p q =
    absurd (omega (arith, ltb-false 0 (l * up c * down d + k * up d * down c) q, mul-pos (factor (k * up d) (down e) _ (ltb-true _ _ p)) (down_pos c)))
finite_between false m e true k d u l c p q = absurd (no p)
finite_between true m e false k d false l c p q =
    lt-ltb 0 (m * up e * down c + l * up c * down e)
    (sum_above (m * up e) (k * up d) (l * up c) (down e) (down d) (down c) (down_pos e) (down_pos c)
    (ltb-true 0 (m * up e * down d + k * up d * down e) p) (ltb-false _ _ q))
finite_between true m e false k d true l c p q =
    lt-ltb _ _
    (none_above (m * up e) (k * up d) (l * up c) (down e) (down d) (down c) (down_pos d) (down_pos c) (ltb-true 0 (m * up e * down d + k * up d * down e) p)
    (ltb-false 0 (l * up c * down d + k * up d * down c) q))
finite_between true m e true k d false l c p q =
    lt-ltb 0 (m * up e * down c + l * up c * down e) (omega (arith, mul-pos (factor (m * up e) (down d) _ (ltb-true _ _ p)) (down_pos c)))
finite_between true m e true k d true l c p q =
    lt-ltb _ _ (cross' (l * up c) (k * up d) (m * up e) (down c) (down d) (down e) (down_pos c) (down_pos e) (ltb-false _ _ q) (ltb-true _ _ p))

between : (f z b : Float) → is_nan b ≡ false → lt f z ≡ true → lt b z ≡ false → lt f b ≡ true
unfolding lt is_nan
between nan z b n p q = absurd (no p)
between (inf false) nan b n p q = absurd (no p)
between (inf false) (inf t) b n p q = absurd (no p)
between (inf false) (fin t k d) b n p q = absurd (no p)
between (inf true) z nan n p q = absurd (no (sym n))
between (inf true) z (inf true) n p q = absurd (no (sym q ∙ p))
between (inf true) z (inf false) n p q = refl
between (inf true) z (fin u l c) n p q = refl
between (fin s m e) nan b n p q = absurd (no p)
between (fin s m e) (inf true) b n p q = absurd (no p)
between (fin s m e) (inf false) nan n p q = absurd (no (sym n))
between (fin s m e) (inf false) (inf true) n p q = absurd (no (sym q))
between (fin s m e) (inf false) (inf false) n p q = refl
between (fin s m e) (inf false) (fin u l c) n p q = absurd (no (sym q))
between (fin s m e) (fin t k d) nan n p q = absurd (no (sym n))
between (fin s m e) (fin t k d) (inf true) n p q = absurd (no (sym q))
between (fin s m e) (fin t k d) (inf false) n p q = refl
between (fin s m e) (fin t k d) (fin u l c) n p q = finite_between s m e t k d u l c p q

-- ---- heights that take each other's place
beside_number : (z b : Float) → is_nan b ≡ false → exceeds_of z b ≡ lt b z
unfolding exceeds_of
beside_number z b n = rw n

beside_nan : (z b : Float) → is_nan b ≡ true → is_nan z ≡ false → exceeds_of z b ≡ true
unfolding exceeds_of
beside_nan z b n m = rw (n, m)

never_nan : (z b : Float) → is_nan z ≡ true → exceeds_of z b ≡ true → ⊥
unfolding exceeds_of
never_nan z b n h = by_test (is_nan b) (λ m. no (rw (m, n) at h)) (λ m. no (sym (lt_number b z (rw m at h)) ∙ n))

-- z takes f's place, and does not take b's: b takes f's
pub passes : (f z b : Float) → exceeds_of z f ≡ true → exceeds_of z b ≡ false → exceeds_of b f ≡ true
passes f z b p q =
    by_test (is_nan z) (λ m. absurd (never_nan z f m p))
    (λ m. by_test (is_nan b) (λ n. absurd (no (sym q ∙ beside_nan z b n m)))
    (λ n. by_test (is_nan f) (λ k. beside_nan b f k n)
    (λ k. beside_number b f k ∙ between f z b n (sym (beside_number z f k) ∙ p) (sym (beside_number z b n) ∙ q))))

-- b takes f's place and z takes b's: z takes f's
pub rises : (f b z : Float) → exceeds_of b f ≡ true → exceeds_of z b ≡ true → exceeds_of z f ≡ true
rises f b z p q =
    by_test (is_nan z) (λ m. absurd (never_nan z b m q))
    (λ m. by_test (is_nan b) (λ n. absurd (never_nan b f n p))
    (λ n. by_test (is_nan f) (λ k. beside_nan z f k m)
    (λ k. beside_number z f k ∙ lt_goes_on f b z (sym (beside_number b f k) ∙ p) (sym (beside_number z b n) ∙ q))))

-- ---- contacts
pub takes : (b z : Float) (s t : Touch) → exceeds_of z b ≡ true → take_of (at_height b s) z t ≡ at_height z t
unfolding take_of
takes b z s t e = rw e

pub waits : (b z : Float) (s t : Touch) → exceeds_of z b ≡ false → take_of (at_height b s) z t ≡ at_height b s
unfolding take_of
waits b z s t e = rw e

-- a candidate more on top of c
pub goes_on : (c d : Option Contact) (z : Float) (t : Touch) → offer_of c (take_of d z t) ≡ take_of (offer_of c d) z t
unfolding offer_of
goes_on c None z t = unfold take_of in refl
goes_on None (Some m) z t = unfold take_of in by_test (exceeds_of z m.height) (λ e. rw e) (λ e. rw e)
goes_on (Some m) (Some n) z t =
    by_test (exceeds_of z n.height)
    (λ e. ap (offer_of (at_height m.height m.touch)) (takes n.height z n.touch t e)
    ∙ by_test (exceeds_of n.height m.height)
    (λ g. takes m.height z m.touch t (rises m.height n.height z g e) ∙ sym (ap (λ c. take_of c z t) (takes m.height n.height m.touch n.touch g) ∙ takes n.height z n.touch t e))
    (λ g. sym (ap (λ c. take_of c z t) (waits m.height n.height m.touch n.touch g))))
    (λ e. ap (offer_of (at_height m.height m.touch)) (waits n.height z n.touch t e)
    ∙ by_test (exceeds_of n.height m.height)
    (λ g. takes m.height n.height m.touch n.touch g ∙ sym (ap (λ c. take_of c z t) (takes m.height n.height m.touch n.touch g) ∙ waits n.height z n.touch t e))
    (λ g. by_test (exceeds_of z m.height)
    (λ k. absurd (no (sym g ∙ passes m.height z n.height k e)))
    (λ k. waits m.height n.height m.touch n.touch g ∙ sym (ap (λ c. take_of c z t) (waits m.height n.height m.touch n.touch g) ∙ waits m.height z m.touch t k))))

pub offers : (c d e : Option Contact) → offer_of c (offer_of d e) ≡ offer_of (offer_of c d) e
unfolding offer_of
offers c d None = refl
offers c d (Some m) = goes_on c d m.height m.touch

-- on top of nothing
pub alone : (c : Option Contact) → offer_of None c ≡ c
unfolding offer_of take_of
alone None = refl
alone (Some m) = refl

-- ---- what is at most the limit is not taken
none_under : (z : Float) → le z (f0 ⊘ f0) ≡ true → ⊥
unfolding of_bits div le lt eq
none_under nan h = no h
none_under (inf s) h = no h
none_under (fin s m e) h = no h

at_most_waits : (z b : Float) → le z b ≡ true → exceeds_of z b ≡ false
at_most_waits z b h =
    by_test (exceeds_of z b)
    (λ e. by_test (is_nan b) (λ n. absurd (not_of_nan z b n h)) (λ n. absurd (le_not_lt z b h (sym (beside_number z b n) ∙ e))))
    (λ e. e)
  where
    not_of_nan : (z b : Float) → is_nan b ≡ true → le z b ≡ true → ⊥
    not_of_nan z b n h = no (sym (le_number z b h) ∙ n)

pub stays_under : (c : Option Contact) (z : Float) (t : Touch) → le z (limit_of c) ≡ true → take_of c z t ≡ c
unfolding limit_of
stays_under None z t h = absurd (none_under z h)
stays_under (Some m) z t h = waits m.height z m.touch t (at_most_waits z m.height h)

-- ---- three candidates, one after the other
pub three : (c₀ c₁ c₂ c₃ e₁ e₂ e₃ : Option Contact) → c₁ ≡ offer_of c₀ e₁ → c₂ ≡ offer_of c₁ e₂ → c₃ ≡ offer_of c₂ e₃ → c₃ ≡ offer_of (offer_of (offer_of c₀ e₁) e₂) e₃
three c₀ c₁ c₂ c₃ e₁ e₂ e₃ q₁ q₂ q₃ = rw (q₃, q₂, q₁)

pub three_on : (c d e₁ e₂ e₃ : Option Contact) → offer_of c (offer_of (offer_of (offer_of d e₁) e₂) e₃) ≡ offer_of (offer_of (offer_of (offer_of c d) e₁) e₂) e₃
three_on c d e₁ e₂ e₃ =
    offers c (offer_of (offer_of d e₁) e₂) e₃ ∙ ap (λ k. offer_of k e₃) (offers c (offer_of d e₁) e₂ ∙ ap (λ k. offer_of k e₂) (offers c d e₁))

pub three_from : (c₀ c₁ c₂ c₃ e₁ e₂ e₃ : Option Contact) → c₁ ≡ offer_of c₀ e₁ → c₂ ≡ offer_of c₁ e₂ → c₃ ≡ offer_of c₂ e₃
    → c₃ ≡ offer_of c₀ (offer_of (offer_of (offer_of None e₁) e₂) e₃)
three_from c₀ c₁ c₂ c₃ e₁ e₂ e₃ q₁ q₂ q₃ =
    let n : c₀ ≡ offer_of c₀ None = unfold offer_of in refl in
    three c₀ c₁ c₂ c₃ e₁ e₂ e₃ q₁ q₂ q₃ ∙ ap (λ k. offer_of (offer_of (offer_of k e₁) e₂) e₃) n ∙ sym (three_on c₀ None e₁ e₂ e₃)

-- ---- what a contact raises: f of its height and touch where it takes b's place, else a
unfoldable pub raising : {A : Type 0} → Float → (Float → Touch → A) → A → Option Contact → A
raising b f a None = a
raising b f a (Some m) = cond (exceeds_of m.height b) (f m.height m.touch) a

-- it raises the same on top of b
pub raises_same : {A : Type 0} (b : Float) (s : Touch) (f : Float → Touch → A) (a : A) (c : Option Contact) → raising b f a (offer_of (at_height b s) c) ≡ raising b f a c
unfolding raising offer_of take_of
raises_same b s f a None = rw (same_waits b)
raises_same b s f a (Some m) =
    by_test (exceeds_of m.height b)
    (λ e. ap (raising b f a) (takes b m.height s m.touch e) ∙ refl)
    (λ e. ap (raising b f a) (waits b m.height s m.touch e) ∙ (rw (same_waits b, e)))

-- ---- what is on top of a best so far and touches something is the contact itself
pub own : (f : Float) (c r : Option Contact) → r ≡ offer_of (so_far f) c → touches_of r ≡ true → r ≡ c
unfolding touches_of offer_of
own f None r e h = absurd (no (sym (ap touches_of e) ∙ h))
own f (Some m) r e h =
    by_test (exceeds_of m.height f)
    (λ g. e ∙ takes f m.height _ m.touch g)
    (λ g. absurd (no (sym (ap touches_of (e ∙ waits f m.height _ m.touch g)) ∙ h)))
