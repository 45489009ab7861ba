-- What lies so low that no candidate of it is above a height; no answer is defined here.
use Rattle.std.specs.Prelude.{Bool, true, cond, ◌&&◌, Float}
use Rattle.std.specs.Float.Ieee.{lt, le, of_bits}
use Rattle.std.specs.Float.{binary64}
use Rattle.numbers.specs.Reals.{◌⊖◌}
use Rattle.plane.specs.declared.Triangle.{Triangle}

-- 2^-15, more than a computed height can be above its triangle's highest corner
abbrev pub margin : Float
margin = of_bits binary64 0x3f00_0000_0000_0000

-- -2^20, which is below every coordinate; -2^20 + 1 and 2^20, between which a walk may begin
abbrev pub deepest : Float
deepest = of_bits binary64 0xc130_0000_0000_0000

abbrev pub lowest_start : Float
lowest_start = of_bits binary64 0xc12f_fffe_0000_0000

abbrev pub highest_start : Float
highest_start = of_bits binary64 0x4130_0000_0000_0000

-- Whether a walk may begin at `from`.
unfoldable pub is_start : Float → Bool
is_start from = le lowest_start from && le from highest_start

-- Whether z is a height of at most `low`.
unfoldable pub is_low : Float → Float → Bool
is_low low z = le deepest z && le z low

-- Whether all corners of a triangle are.
unfoldable pub lies_low : Float → Triangle → Bool
lies_low low t = is_low low t.az && (is_low low t.bz && is_low low t.cz)

-- Whether a height is above `from` or lies low.
unfoldable pub is_apart : Float → Float → Float → Bool
is_apart low from z = cond (lt from z) true (is_low low z)

-- Whether all corners of a triangle are.
unfoldable pub lies_apart : Float → Float → Triangle → Bool
lies_apart low from t = is_apart low from t.az && (is_apart low from t.bz && is_apart low from t.cz)

-- Whether a triangle with this top has its contact on one side of `from`: its top is above, and each corner above or low; or all lie low.
unfoldable pub is_parted : Float → Float → Triangle → Bool
is_parted from top t = cond (le top from) (lies_low (from ⊖ margin) t) (lies_apart (from ⊖ margin) from t)
