-- The order of floats by sign and size: `le` of ±a / c and ±b / d.
use Rattle.std.proofs.Common.{◌≡◌, ℕ, ◌+◌, ◌*◌, ◌<◌, ◌≤◌, Bool, true, false, ◌&&◌, ◌||◌, T, eqb, ltb, ℤ, sym, ap, ◌∙◌, subst, le_of_eq, zero-mul, le_of_mul-le-mul_right, arith, ltb-false, ltb-true, eq-eqb, eqb-true}
use lib.Ieee.{Float, nan, inf, fin, up, down, le}
use lib.Ieee.Fits.{down_pos}
use lib.Ieee.Exact.{HasValue}
use lib.Ieee.Order.{transfer}
use Rattle.rules.proofs.Branches.{by_test}

-- ---- the tests that `le` comes down to
or_le : (a b : ℕ) → T (ltb a b || (eqb a b && true)) → a ≤ b
or_le a b t = by_test (ltb a b) (λ e. let h = ltb-true a b e in omega arith)
    (λ e. by_test (eqb a b) (λ f. let h = eqb-true a b f in omega arith) (λ f. absurd (rw (e, f) at t)))

le_or : (a b : ℕ) → a ≤ b → T (ltb a b || (eqb a b && true))
le_or a b h = by_test (ltb a b) (λ e. rw e tt) (λ e. let k : a ≡ b = omega (arith, ltb-false a b e) in rw (e, eq-eqb a b k) tt)

or_ge : (a b : ℕ) → T (ltb b a || (eqb a b && true)) → b ≤ a
or_ge a b t = by_test (ltb b a) (λ e. let h = ltb-true b a e in omega arith)
    (λ e. by_test (eqb a b) (λ f. let h = eqb-true a b f in omega arith) (λ f. absurd (rw (e, f) at t)))

ge_or : (a b : ℕ) → b ≤ a → T (ltb b a || (eqb a b && true))
ge_or a b h = by_test (ltb b a) (λ e. rw e tt) (λ e. let k : a ≡ b = omega (arith, ltb-false b a e) in rw (e, eq-eqb a b k) tt)

both_zero : (a b : ℕ) → T (eqb a b && eqb a 0) → (a ≡ 0) × (b ≡ 0)
both_zero a b t =
    by_test (eqb a b)
    (λ e. by_test (eqb a 0) (λ f. let h = eqb-true a b e in let k = eqb-true a 0 f in omega arith) (λ f. absurd (rw (e, f) at t)))
    (λ e. absurd (rw e at t))

zero_or : (a b : ℕ) → T (ltb 0 (a + b) || (eqb a b && eqb a 0))
zero_or a b = by_test (ltb 0 (a + b)) (λ e. rw e tt) (λ e. let h = ltb-false 0 (a + b) e in rw (e, eq-eqb a b (omega arith), eq-eqb a 0 (omega arith)) tt)

zeros : (a b : ℕ) → a ≡ 0 → b ≡ 0 → T (eqb a b && eqb a 0)
zeros a b e f = rw (eq-eqb a b (omega arith), eq-eqb a 0 e) tt

-- ---- ±a / c is not above ±b / d
abbrev pub Under : Bool → ℕ → ℕ → Bool → ℕ → ℕ → Type 0
Under false a c false b d = a * d ≤ b * c
Under false a c true b d = (a ≡ 0) × (b ≡ 0)
Under true a c false b d = 0 ≤ a
Under true a c true b d = b * c ≤ a * d

-- a product is zero with its first factor, the second being above zero
first_zero : (a d : ℕ) → 0 < d → a * d ≡ 0 → a ≡ 0
first_zero a d D e = none a (le_of_mul-le-mul_right {k = d} (le_of_eq (e ∙ sym (zero-mul d))) D)
  where
    none : (n : ℕ) → n ≤ 0 → n ≡ 0
    none n h = omega arith

zero_times : (a d : ℕ) → a ≡ 0 → a * d ≡ 0
zero_times a d e = ap (λ (n : ℕ). n * d) e ∙ zero-mul d

pub le→under : (s : Bool) (m : ℕ) (e : ℤ) (t : Bool) (n : ℕ) (d : ℤ) → T (le (fin s m e) (fin t n d)) → Under s (m * up e) (down e) t (n * up d) (down d)
unfolding le
le→under false m e false n d h = or_le (m * up e * down d) (n * up d * down e) h
le→under false m e true n d h = let z = both_zero (m * up e * down d) (n * up d * down e) h in
    (first_zero (m * up e) (down d) (down_pos d) z.0, first_zero (n * up d) (down e) (down_pos e) z.1)
le→under true m e false n d h = omega arith
le→under true m e true n d h = or_ge (m * up e * down d) (n * up d * down e) h

under→le : (s : Bool) (m : ℕ) (e : ℤ) (t : Bool) (n : ℕ) (d : ℤ) → Under s (m * up e) (down e) t (n * up d) (down d) → T (le (fin s m e) (fin t n d))
unfolding le
under→le false m e false n d h = le_or (m * up e * down d) (n * up d * down e) h
under→le false m e true n d h = zeros (m * up e * down d) (n * up d * down e) (zero_times (m * up e) (down d) h.0) (zero_times (n * up d) (down e) h.1)
under→le true m e false n d h = zero_or (m * up e * down d) (n * up d * down e)
under→le true m e true n d h = ge_or (m * up e * down d) (n * up d * down e) h

-- the same by any fractions that the two equal
vanish : (x de a c : ℕ) → x * c ≡ a * de → 0 < c → a ≡ 0 → x ≡ 0
vanish x de a c p C z = first_zero x c C (p ∙ zero_times a de z)

pub le_of_signed : (x y : Float) (s : Bool) (a c : ℕ) (t : Bool) (b d : ℕ) → 0 < c → 0 < d → HasValue x s a c → HasValue y t b d
    → Under s a c t b d → T (le x y)
le_of_signed nan y s a c t b d C D h k o = absurd h
le_of_signed (inf z) y s a c t b d C D h k o = absurd h
le_of_signed (fin z m e) nan s a c t b d C D h k o = absurd k
le_of_signed (fin z m e) (inf w) s a c t b d C D h k o = absurd k
le_of_signed (fin z m e) (fin w n g) s a c t b d C D h k o =
    subst (λ (v : Bool). T (le (fin v m e) (fin w n g))) (sym h.0)
    (subst (λ (v : Bool). T (le (fin s m e) (fin v n g))) (sym k.0) (under→le s m e t n g (go s t o)))
  where
    go : (s t : Bool) → Under s a c t b d → Under s (m * up e) (down e) t (n * up g) (down g)
    go false false o = transfer (m * up e) (n * up g) (down e) (down g) a b c d C D h.1 k.1 o
    go false true o = (vanish (m * up e) (down e) a c h.1 C o.0, vanish (n * up g) (down g) b d k.1 D o.1)
    go true false o = omega arith
    go true true o = transfer (n * up g) (m * up e) (down g) (down e) b a d c D C k.1 h.1 o

pub under_of_le : (x y : Float) (s : Bool) (a c : ℕ) (t : Bool) (b d : ℕ) → 0 < c → 0 < d → HasValue x s a c → HasValue y t b d → T (le x y) → Under s a c t b d
under_of_le nan y s a c t b d C D h k l = absurd h
under_of_le (inf z) y s a c t b d C D h k l = absurd h
under_of_le (fin z m e) nan s a c t b d C D h k l = absurd k
under_of_le (fin z m e) (inf w) s a c t b d C D h k l = absurd k
under_of_le (fin z m e) (fin w n g) s a c t b d C D h k l =
    go s t (le→under s m e t n g (subst (λ (v : Bool). T (le (fin s m e) (fin v n g))) k.0 (subst (λ (v : Bool). T (le (fin v m e) (fin w n g))) h.0 l)))
  where
    go : (s t : Bool) → Under s (m * up e) (down e) t (n * up g) (down g) → Under s a c t b d
    go false false o = transfer a b c d (m * up e) (n * up g) (down e) (down g) (down_pos e) (down_pos g) (sym h.1) (sym k.1) o
    go false true o = (vanish a c (m * up e) (down e) (sym h.1) (down_pos e) o.0, vanish b d (n * up g) (down g) (sym k.1) (down_pos g) o.1)
    go true false o = omega arith
    go true true o = transfer b a d c (n * up g) (m * up e) (down g) (down e) (down_pos g) (down_pos e) (sym k.1) (sym h.1) o
