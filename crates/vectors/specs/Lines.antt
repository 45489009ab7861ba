-- The line of a list: a letter, then numbers of 16 hex digits, the highest first, with a blank before each.
use Rattle.std.specs.Prelude.{cond, List, ℕ, zero, suc, ◌+◌, ◌-◌, ◌*◌, leb, eqb, Float, get_or, None, Option, Some}
use Rattle.std.specs.Float.{binary64}
use Rattle.std.specs.Float.Ieee.{of_bits, to_bits}
use Rattle.plane.specs.declared.Triangle.{Triangle}
use Rattle.plane.specs.declared.Contact.{Contact}

-- The digit that a byte is: 0 to 9, a to f; 0 for any other.
unfoldable pub digit_of : ℕ → ℕ
digit_of b = cond (leb b 57) (cond (leb 48 b) (b - 48) 0) (cond (leb b 102) (cond (leb 97 b) (b - 97 + 10) 0) 0)

-- The number whose n digits start at `from`.
unfoldable pub hex_of : List ℕ → ℕ → ℕ → ℕ
hex_of line from zero = 0
hex_of line from (suc n) = hex_of line from n * 16 + digit_of (get_or line (from + n) 0)

-- The float of 64 bits, and the bits of a float: every NaN's bits are the one NaN, and its bits are 7ff8000000000000.
abbrev pub float_of : ℕ → Float
float_of bits = of_bits binary64 bits

abbrev pub bits_of : Float → ℕ
bits_of x = to_bits binary64 x

-- Number j of a line.
unfoldable pub asked_of : List ℕ → ℕ → Float
asked_of line j = float_of (hex_of line (2 + 17 * j) 16)

-- The triangle of its first nine: the corners a, b and c.
unfoldable pub triangle_of : List ℕ → Triangle
triangle_of line =
    record {
      ax = asked_of line 0;
      ay = asked_of line 1;
      az = asked_of line 2;
      bx = asked_of line 3;
      by = asked_of line 4;
      bz = asked_of line 5;
      cx = asked_of line 6;
      cy = asked_of line 7;
      cz = asked_of line 8;
    }

-- 1 where a and b are not the same
unfoldable pub unlike_of : ℕ → ℕ → ℕ
unlike_of a b = cond (eqb a b) 0 1

-- 1 where a contact is a height
unfoldable pub heights_in : Option Contact → ℕ
heights_in None = 0
heights_in (Some m) = 1

-- 1 where a contact is not the answer that stands behind a line's 15 numbers: the digit 0 for no contact, or 1 and the height's bits.
unfoldable pub differs_from : List ℕ → Option Contact → ℕ
differs_from line None = unlike_of (digit_of (get_or line 257 0)) 0
differs_from line (Some m) = cond (eqb (digit_of (get_or line 257 0)) 1) (unlike_of (bits_of m.height) (hex_of line 259 16)) 1
