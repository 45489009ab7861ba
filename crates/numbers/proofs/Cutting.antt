-- `cut` at its two ends: below 1 it gives 0, from 2^64 on the largest u64.
use Rattle.std.proofs.Common.{◌≡◌, ℕ, ◌+◌, ◌-◌, ◌*◌, ◌/◌, ◌^◌, ◌<◌, ◌≤◌, min, Bool, true, false, ◌&&◌, ◌||◌, T, eqb, ltb, ℤ, pos, sym, refl, one-mul, le-div_iff_mul-le, mul-one, arith, lt→ltb, ltb-false, eqb-true}
use native.Mathlib.Nat.{div-eq_of_lt}
use borrow.Author.Tests.{eqb-false}
use lib.Ieee.{Float, nan, inf, fin, binary64, of_bits, up, down, lt, le, eq, to_unsigned}
use lib.Ieee.Fits.{down_pos}
use Rattle.rules.proofs.Branches.{no}

-- 2 ^ 64
abbrev pub past64 : Float
past64 = of_bits binary64 0x43f0_0000_0000_0000

pub past64_is : past64 ≡ fin false 1 (pos 64)
unfolding of_bits
past64_is = refl

-- what a failed `le` of two numbers says
above : (a b : ℕ) → (ltb a b || (eqb a b && true)) ≡ false → b < a
above a b e = by_lt (ltb a b) (eqb a b) (ltb-false a b) (eqb-false a b) e
  where
    by_lt : (t u : Bool) → (t ≡ false → b ≤ a) → (u ≡ false → a ≡ b → ⊥) → (t || (u && true)) ≡ false → b < a
    by_lt true u p q e = absurd (no (sym e))
    by_lt false true p q e = absurd (no (sym e))
    by_lt false false p q e = let h = p refl in let k = q refl in omega arith

min_low : (a b : ℕ) → a ≡ 0 → min a b ≡ 0
min_low a b e = omega arith

min_high : (a b : ℕ) → b ≤ a → min a b ≡ b
min_high a b h = omega arith

-- a positive number is not level with a negative one
not_level : (a : ℕ) (t : Bool) → 0 < a → (t && eqb a 0) ≡ true → ⊥
not_level a true h e = let z = eqb-true a 0 e in omega arith
not_level a false h e = no e

one_pos : (k : ℤ) → 0 < 1 * down k
one_pos k = omega (arith, one-mul (down k), down_pos k)

-- below 1
pub cut_low : (x : Float) → le (fin false 1 (pos 0)) x ≡ false → to_unsigned 64 x ≡ 0
unfolding to_unsigned le
cut_low nan e = refl
cut_low (inf true) e = refl
cut_low (inf false) e = absurd (no (sym e))
cut_low (fin true m k) e = refl
cut_low (fin false m k) e =
    let h = above (1 * down k) (m * up k * 1) e in
    min_low (m * up k / down k) (2 ^ 64 - 1) (div-eq_of_lt (omega (arith, one-mul (down k), mul-one (m * up k))))

-- from 2 ^ 64 on
pub cut_high : (x : Float) → le (fin false 1 (pos 0)) x ≡ true → lt x (fin false 1 (pos 64)) ≡ false → to_unsigned 64 x ≡ 2 ^ 64 - 1
unfolding to_unsigned le lt eq
cut_high nan e f = absurd (no e)
cut_high (inf true) e f = absurd (no e)
cut_high (inf false) e f = refl
cut_high (fin true m k) e f = absurd (not_level (1 * down k) (eqb (1 * down k) (m * up k * 1)) (one_pos k) e)
cut_high (fin false m k) e f =
    let h : 2 ^ 64 * down k ≤ m * up k = omega (arith, ltb-false (m * up k * 1) (2 ^ 64 * down k) f, mul-one (m * up k)) in
    let g : 2 ^ 64 ≤ m * up k / down k = (le-div_iff_mul-le (down_pos k)).1 h in
    min_high (m * up k / down k) (2 ^ 64 - 1) (omega arith)

-- in between the cast's own condition holds
pub cut_asks : (x : Float) → le (fin false 1 (pos 0)) x ≡ true → T (lt (fin true 1 (pos 0)) x)
unfolding le lt eq
cut_asks nan e = absurd (no e)
cut_asks (inf true) e = absurd (no e)
cut_asks (inf false) e = tt
cut_asks (fin true m k) e = absurd (not_level (1 * down k) (eqb (1 * down k) (m * up k * 1)) (one_pos k) e)
cut_asks (fin false m k) e = lt→ltb 0 (1 * down k + m * up k * 1) (omega (arith, one_pos k))
