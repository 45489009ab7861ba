-- Document 01, "Numbers": the operators of IEEE 754-2019 at binary64, each rounded once; the constants of the source and of document 01, by their
-- bits, each decimal fraction with a line that computes it as the rounding of a quotient; max, min, the magnitude and the clamp. At the end a line
-- for each constant says what number its bits are.
use Rattle.std.specs.Prelude.{◌≡◌, ℕ, ◌^◌, true, false, cond, List, pos, negsuc, is_nan, slice_index_or, refl, Float}
use Rattle.std.specs.Float.{nan, inf, fin, binary64}
use Rattle.std.specs.Float.Ieee.{of_bits, round, add, sub, mul, div, lt}

infixl 60 ◌⊕◌ ◌⊖◌
infixl 70 ◌⊗◌ ◌⊘◌
abbrev pub ◌⊕◌ : Float → Float → Float
x ⊕ y = add binary64 x y

abbrev pub ◌⊖◌ : Float → Float → Float
x ⊖ y = sub binary64 x y

abbrev pub ◌⊗◌ : Float → Float → Float
x ⊗ y = mul binary64 x y

abbrev pub ◌⊘◌ : Float → Float → Float
x ⊘ y = div binary64 x y

-- Entry i of a table of numbers. (Past the end, which no definition asks for, it is a NaN.)
abbrev pub num : List Float → ℕ → Float
num xs i = slice_index_or xs i nan

-- 0
abbrev pub f0 : Float
f0 = of_bits binary64 0

-- 1
abbrev pub f1 : Float
f1 = of_bits binary64 0x3ff0_0000_0000_0000

-- 2
abbrev pub f2 : Float
f2 = of_bits binary64 0x4000_0000_0000_0000

-- 4
abbrev pub f4 : Float
f4 = of_bits binary64 0x4010_0000_0000_0000

-- 5
abbrev pub f5 : Float
f5 = of_bits binary64 0x4014_0000_0000_0000

-- 16
abbrev pub f16 : Float
f16 = of_bits binary64 0x4030_0000_0000_0000

-- -1
abbrev pub minus1 : Float
minus1 = of_bits binary64 0xbff0_0000_0000_0000

-- 1e-300, below which a determinant counts as none
abbrev pub tiny : Float
tiny = of_bits binary64 0x01a5_6e1f_c2f8_f359

tiny_rounded : tiny ≡ round binary64 false 1 (10 ^ 300)
unfolding of_bits round
tiny_rounded = refl

-- 1e-12, what eps is of the largest coordinate
abbrev pub slack : Float
slack = of_bits binary64 0x3d71_9799_812d_ea11

slack_rounded : slack ≡ round binary64 false 1 (10 ^ 12)
unfolding of_bits round
slack_rounded = refl

-- -1e-12, down to which a weight counts as not negative, and a place as on its edge
abbrev pub minus_slack : Float
minus_slack = of_bits binary64 0xbd71_9799_812d_ea11

-- 1 + 1e-12, rounded once, as the Rust writes it: up to there a place counts as on its edge
abbrev pub past_one : Float
past_one = of_bits binary64 0x3ff0_0000_0000_1198

-- 1e-15, below which a slope counts as none
abbrev pub no_slope : Float
no_slope = of_bits binary64 0x3cd2_03af_9ee7_5616

no_slope_rounded : no_slope ≡ round binary64 false 1 (10 ^ 15)
unfolding of_bits round
no_slope_rounded = refl

-- 1e-6, the least cell size
abbrev pub millionth : Float
millionth = of_bits binary64 0x3eb0_c6f7_a0b5_ed8d

millionth_rounded : millionth ≡ round binary64 false 1 (10 ^ 6)
unfolding of_bits round
millionth_rounded = refl

-- 1e6, the largest coordinate
abbrev pub million : Float
million = of_bits binary64 0x412e_8480_0000_0000

-- 2e6, the largest cell size
abbrev pub two_million : Float
two_million = of_bits binary64 0x413e_8480_0000_0000

-- 3e6, the farthest point of a question
abbrev pub three_million : Float
three_million = of_bits binary64 0x4146_e360_0000_0000

-- 2e-6, the largest eps
abbrev pub two_millionths : Float
two_millionths = of_bits binary64 0x3ec0_c6f7_a0b5_ed8d

two_millionths_rounded : two_millionths ≡ round binary64 false 2 (10 ^ 6)
unfolding of_bits round
two_millionths_rounded = refl

-- 1e9, the steepest rise
abbrev pub billion : Float
billion = of_bits binary64 0x41cd_cd65_0000_0000

-- 1e-7, the least tolerance
abbrev pub finest : Float
finest = of_bits binary64 0x3e7a_d7f2_9abc_af48

finest_rounded : finest ≡ round binary64 false 1 (10 ^ 7)
unfolding of_bits round
finest_rounded = refl

-- 0.01, the largest tolerance
abbrev pub coarsest : Float
coarsest = of_bits binary64 0x3f84_7ae1_47ae_147b

coarsest_rounded : coarsest ≡ round binary64 false 1 100
unfolding of_bits round
coarsest_rounded = refl

-- 0.1, the largest level tolerance
abbrev pub tenth : Float
tenth = of_bits binary64 0x3fb9_9999_9999_999a

tenth_rounded : tenth ≡ round binary64 false 1 10
unfolding of_bits round
tenth_rounded = refl

-- max and min: a NaN yields the other operand; if the two compare equal, the first operand.
unfoldable pub max_of : Float → Float → Float
max_of x y = cond (is_nan x) y (cond (lt x y) y x)

unfoldable pub min_of : Float → Float → Float
min_of x y = cond (is_nan x) y (cond (lt y x) y x)

-- The magnitude: the sign is cleared, also that of -0.0; a NaN stays.
unfoldable pub abs_of : Float → Float
abs_of nan = nan
abs_of (inf s) = inf false
abs_of (fin s m e) = fin false m e

-- clamp to 0..1: below 0 gives +0.0, above 1 gives 1, else the number itself, -0.0 and NaN too.
unfoldable pub clamp_unit : Float → Float
clamp_unit t = cond (lt t f0) f0 (cond (lt f1 t) f1 t)

-- What number each constant is: `fin s m e` is m * 2 ^ e, negative where s is true, and `negsuc k` is -(k + 1).
pub f0_is : f0 ≡ fin false 0 (pos 0)
unfolding of_bits
f0_is = refl

pub f1_is : f1 ≡ fin false 1 (pos 0)
unfolding of_bits
f1_is = refl

pub f2_is : f2 ≡ fin false 1 (pos 1)
unfolding of_bits
f2_is = refl

pub f4_is : f4 ≡ fin false 1 (pos 2)
unfolding of_bits
f4_is = refl

pub f5_is : f5 ≡ fin false 5 (pos 0)
unfolding of_bits
f5_is = refl

pub f16_is : f16 ≡ fin false 1 (pos 4)
unfolding of_bits
f16_is = refl

pub minus1_is : minus1 ≡ fin true 1 (pos 0)
unfolding of_bits
minus1_is = refl

pub tiny_is : tiny ≡ fin false 6032057205060441 (negsuc 1048)
unfolding of_bits
tiny_is = refl

pub slack_is : slack ≡ fin false 4951760157141521 (negsuc 91)
unfolding of_bits
slack_is = refl

pub minus_slack_is : minus_slack ≡ fin true 4951760157141521 (negsuc 91)
unfolding of_bits
minus_slack_is = refl

pub past_one_is : past_one ≡ fin false 562949953421875 (negsuc 48)
unfolding of_bits
past_one_is = refl

pub no_slope_is : no_slope ≡ fin false 2535301200456459 (negsuc 100)
unfolding of_bits
no_slope_is = refl

pub millionth_is : millionth ≡ fin false 4722366482869645 (negsuc 71)
unfolding of_bits
millionth_is = refl

pub million_is : million ≡ fin false 15625 (pos 6)
unfolding of_bits
million_is = refl

pub two_million_is : two_million ≡ fin false 15625 (pos 7)
unfolding of_bits
two_million_is = refl

pub three_million_is : three_million ≡ fin false 46875 (pos 6)
unfolding of_bits
three_million_is = refl

pub two_millionths_is : two_millionths ≡ fin false 4722366482869645 (negsuc 70)
unfolding of_bits
two_millionths_is = refl

pub billion_is : billion ≡ fin false 1953125 (pos 9)
unfolding of_bits
billion_is = refl

pub finest_is : finest ≡ fin false 944473296573929 (negsuc 72)
unfolding of_bits
finest_is = refl

pub coarsest_is : coarsest ≡ fin false 5764607523034235 (negsuc 58)
unfolding of_bits
coarsest_is = refl

pub tenth_is : tenth ≡ fin false 3602879701896397 (negsuc 54)
unfolding of_bits
tenth_is = refl
