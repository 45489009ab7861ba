-- The magnitude of x is the larger of x and 0 - x: 0 - x is x with the other sign, and nothing is rounded, but of a zero it is +0.0.
use Rattle.std.proofs.Common.{◌≡◌, ℕ, zero, suc, ◌+◌, ◌-◌, ◌*◌, ◌<◌, Bool, true, false, cond, not, ◌&&◌, T, ltb, ℤ, sym, refl, ap, ◌∙◌, zero-lt-suc, mul-pos, one-mul, zero-add, zero-mul, mul-one, arith, lt-ltb}
use native.Mathlib.Nat.{sub-zero}
use lib.Ieee.{Float, nan, inf, fin, binary64, up, down, round, fits, of_bits, neg, sum, add, sub, lt}
use lib.Ieee.Fits.{up_pos, down_pos}
use Rattle.numbers.specs.Reals.{◌⊖◌, f0, abs_of}
use Rattle.numbers.proofs.Counts.{fits_signed, round_self}

-- ---- 0 + ±n / d
zero_plus : (t : Bool) (n d : ℕ) → 0 < n → sum binary64 false 0 t n d ≡ round binary64 t n d
unfolding sum
zero_plus false n d h = ap (λ (k : ℕ). round binary64 false k d) (zero-add n)
zero_plus true n d h = ap (λ (b : Bool). cond b (round binary64 true (n - 0) d) (round binary64 (false && ltb n 0) (0 - n) d)) (lt-ltb 0 n h)
    ∙ ap (λ (k : ℕ). round binary64 true k d) (sub-zero n)

zero_plus_zero : (t : Bool) (d : ℕ) → sum binary64 false 0 t 0 d ≡ round binary64 false 0 d
unfolding sum
zero_plus_zero false d = refl
zero_plus_zero true d = refl

minus_is : (s : Bool) (m : ℕ) (e : ℤ) → f0 ⊖ fin s m e ≡ sum binary64 false 0 (not s) (m * up e) (down e)
unfolding sub add neg of_bits
minus_is s m e =
    ap (λ (n : ℕ). sum binary64 false n (not s) (m * up e * 1) (1 * down e)) (ap (λ (n : ℕ). n * down e) (zero-mul 1) ∙ zero-mul (down e))
    ∙ ap (λ (n : ℕ). sum binary64 false 0 (not s) n (1 * down e)) (mul-one (m * up e))
    ∙ ap (λ (n : ℕ). sum binary64 false 0 (not s) (m * up e) n) (one-mul (down e))

minus_zero : (s : Bool) (e : ℤ) → T (fits binary64 (fin s 0 e)) → f0 ⊖ fin s 0 e ≡ fin false 0 e
minus_zero s e t =
    minus_is s 0 e
    ∙ ap (λ (n : ℕ). sum binary64 false 0 (not s) n (down e)) (zero-mul (up e))
    ∙ zero_plus_zero (not s) (down e)
    ∙ ap (λ (n : ℕ). round binary64 false n (down e)) (sym (zero-mul (up e)))
    ∙ round_self false 0 e (fits_signed s false 0 e t)

minus_some : (s : Bool) (m : ℕ) (e : ℤ) → T (fits binary64 (fin s (suc m) e)) → f0 ⊖ fin s (suc m) e ≡ fin (not s) (suc m) e
minus_some s m e t =
    minus_is s (suc m) e
    ∙ zero_plus (not s) (suc m * up e) (down e) (mul-pos (zero-lt-suc m) (up_pos e))
    ∙ round_self (not s) (suc m) e (fits_signed s (not s) (suc m) e t)

-- ---- the larger of the two
larger : (x y z : Float) → y ≡ z → cond (lt z x) x z ≡ abs_of x → cond (lt y x) x y ≡ abs_of x
larger x y z p q = ap (λ (w : Float). cond (lt w x) x w) p ∙ q

pub magnitude : (x : Float) → T (fits binary64 x) → cond (lt (f0 ⊖ x) x) x (f0 ⊖ x) ≡ abs_of x
unfolding abs_of lt
magnitude nan t = unfold sub add neg of_bits in refl
magnitude (inf true) t = unfold sub add neg of_bits in refl
magnitude (inf false) t = unfold sub add neg of_bits in refl
magnitude (fin true zero e) t = larger (fin true 0 e) _ (fin false 0 e) (minus_zero true e t) refl
magnitude (fin false zero e) t = larger (fin false 0 e) _ (fin false 0 e) (minus_zero false e t) (either_way (ltb (0 * up e * down e) (0 * up e * down e)))
  where
    either_way : (b : Bool) → cond b (fin false 0 e) (fin false 0 e) ≡ fin false 0 e
    either_way true = refl
    either_way false = refl
magnitude (fin true (suc m) e) t = larger (fin true (suc m) e) _ (fin false (suc m) e) (minus_some true m e t) refl
magnitude (fin false (suc m) e) t =
    let A = suc m * up e * down e in
    larger (fin false (suc m) e) _ (fin true (suc m) e) (minus_some false m e t)
    (ap (λ (b : Bool). cond b (fin false (suc m) e) (fin true (suc m) e))
    (lt-ltb 0 (A + A) (twice A (mul-pos (mul-pos (zero-lt-suc m) (up_pos e)) (down_pos e)))))
  where
    twice : (a : ℕ) → 0 < a → 0 < a + a
    twice a h = omega arith
