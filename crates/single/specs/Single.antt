-- Document 02, request 3: "Each f32 becomes an f64 of the same value." Which number the 32 bits of an f32 are: a sign, a whole number and a power of two.
use Rattle.std.specs.Prelude.{Bool, true, false, cond, ◌≡◌, refl, ℕ, ◌+◌, ◌-◌, ◌*◌, ◌/◌, ◌%◌, ◌^◌, pos, negsuc, leb, eqb, Float}
use Rattle.std.specs.Float.{fin, inf, binary32}
use Rattle.std.specs.Float.Ieee.{of_bits}
use Rattle.std.specs.Float.Ieee.Exact.{HasValue}

-- The bits: a sign, eight of the exponent, 23 digits.
abbrev pub negative : ℕ → Bool
negative b = leb (2 ^ 31) b

abbrev pub exponent : ℕ → ℕ
exponent b = b % 2 ^ 31 / 2 ^ 23

abbrev pub digits : ℕ → ℕ
digits b = b % 2 ^ 23

-- The whole number: the digits behind a leading one. At exponent 0, in a subnormal or a zero, the digits alone.
unfoldable pub whole : ℕ → ℕ
whole b = cond (eqb (exponent b) 0) (digits b) (2 ^ 23 + digits b)

-- The power of two that it is taken times, counted from that of the smallest f32, which is 2 ^ -149. Exponent 0 counts as 1.
abbrev pub power : ℕ → ℕ
power b = exponent b - 1

-- x is the number of these bits: it has their sign and is whole * 2 ^ power / 2 ^ 149.
abbrev pub IsNumberOf : ℕ → Float → Type 0
IsNumberOf b x = HasValue x (negative b) (whole b * 2 ^ power b) (2 ^ 149)

-- The value of any 32 bits, by IEEE 754-2019: that number, an infinity, or the one NaN.
unfoldable pub value_of : ℕ → Float
value_of b = of_bits binary32 b

-- What it comes to: both zeros, the smallest, the largest subnormal, 1, the largest, an infinity. `fin s m e` is m * 2 ^ e with the
-- sign s, and an f64 has it too.
zero_is : value_of 0 ≡ fin false 0 (pos 0)
unfolding value_of of_bits
zero_is = refl

minus_zero_is : value_of 0x8000_0000 ≡ fin true 0 (pos 0)
unfolding value_of of_bits
minus_zero_is = refl

smallest_is : value_of 1 ≡ fin false 1 (negsuc 148)
unfolding value_of of_bits
smallest_is = refl

largest_subnormal_is : value_of 0x7f_ffff ≡ fin false 0x7f_ffff (negsuc 148)
unfolding value_of of_bits
largest_subnormal_is = refl

one_is : value_of 0x3f80_0000 ≡ fin false 1 (pos 0)
unfolding value_of of_bits
one_is = refl

largest_is : value_of 0x7f7f_ffff ≡ fin false 0xff_ffff (pos 104)
unfolding value_of of_bits
largest_is = refl

infinite_is : value_of 0xff80_0000 ≡ inf true
unfolding value_of of_bits
infinite_is = refl
