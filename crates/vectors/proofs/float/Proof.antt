-- A NaN's pattern is the one NaN; what the test leaves is no such pattern: the highest exponent's with a fraction of 0, or a lower one's.
use mathlib.Core.Path.{◌≡◌, refl, sym, subst, ◌∙◌}
use mathlib.Core.Bool.{Bool, true, not}
use Prim.Native.Nat.{ℕ, ◌-◌, ◌*◌, ◌%◌, ◌^◌, ◌≤◌, ◌<◌}
use borrow.Author.Tests.{le-ltb, lt-ltb}
use lib.Dec.{T}
use lib.Bits.{bit_and, and_mask}
use lib.Ieee.{Float, nan, inf, fin, binary64, is_nan, of_bits, nan_bits, div}
use lib.Ieee.Bits.{nan_bits_above, nan_bits_is}
use Rattle.vectors.proofs.float.Statement.{statement}
use Rattle.vectors.proofs.float.Tie as tie

no_nan : (b : ℕ) → bit_and b (2 ^ 63 - 1) ≤ 2047 * 2 ^ 52 → T (not (nan_bits binary64 b))
no_nan b h =
    subst (λ (t : Bool). T (not t))
    (sym (nan_bits_above binary64 b ∙ le-ltb (2047 * 2 ^ 52) (b % 2 ^ 63) (subst (λ (n : ℕ). n ≤ 2047 * 2 ^ 52) (and_mask b 63) h))) tt

is_nan_lem : (x : Float) → is_nan x ≡ true → nan ≡ x
unfolding is_nan
is_nan_lem nan e = refl
is_nan_lem (inf s) e = absurd (subst T (sym e) tt)
is_nan_lem (fin s m d) e = absurd (subst T (sym e) tt)

one_nan : (b : ℕ) → 2047 * 2 ^ 52 < bit_and b (2 ^ 63 - 1) → nan ≡ of_bits binary64 b
one_nan b h =
    is_nan_lem (of_bits binary64 b) (sym (nan_bits_is binary64 b) ∙ nan_bits_above binary64 b
    ∙ lt-ltb (2047 * 2 ^ 52) (b % 2 ^ 63) (subst (λ (n : ℕ). 2047 * 2 ^ 52 < n) (and_mask b 63) h))

quotient : div binary64 (of_bits binary64 0) (of_bits binary64 0) ≡ nan
unfolding div of_bits
quotient = refl

pub float_spec : {M : Type 1} → statement M
float_spec = tie.close (tie.spec (λ c. quotient ∙ one_nan c.before.args.bits c.if-bits-gt9218868437227405312.true)
    (λ c. no_nan c.before.args.bits c.if-bits-gt9218868437227405312.false) (λ c. refl))
