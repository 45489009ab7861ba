-- Document 02, request 12: which lists of moves are refused, and what move t of a list is.
use Rattle.std.specs.Prelude.{Bool, true, false, not, cond, List, [], ◌∷◌, ◌≡◌, ℕ, zero, suc, ◌+◌, ◌*◌, ◌≤◌, ◌<◌, eqb, ltb, Float, length}
use Rattle.std.specs.Float.{binary64}
use Rattle.std.specs.Float.Ieee.{of_bits}
use Rattle.fields.specs.declared.Shape.{Shape}
use Rattle.fields.specs.Little.{value}
use Rattle.fields.specs.Rows.{finite, first_bad, somewhere}
use Rattle.rules.specs.Ladder.{refuse}
use Rattle.rules.specs.Limits.{most}
use Rattle.fields.specs.Length.{length_rule, refuse_length, whole_in}
use Rattle.fields.specs.Copies.{ToldApart}
use Rattle.paths.specs.Layout.{mark, version, zero_byte, count, kind_byte, number, shape, numbers, letters}
use Rattle.paths.specs.declared.Kind.{Kind}
use Rattle.paths.specs.declared.Kind.TheVariants.{Rapid, Cut}
use Rattle.paths.specs.declared.Point.{Point}
use Rattle.paths.specs.declared.Move.{Move}

-- ---- the moves of a list

-- number k of the file, from its bits
unfoldable pub number_of : List ℕ → ℕ → Float
number_of bytes k = of_bits binary64 (value (number k) bytes)

-- "0 rapid, 1 cut"
unfoldable pub kind_of : ℕ → Kind
kind_of k = cond (eqb k 0) Rapid Cut

-- point p: the start, or the end of the move before
unfoldable pub point_of : List ℕ → ℕ → Point
point_of bytes p = record { x = number_of bytes (3 * p); y = number_of bytes (3 * p + 1); z = number_of bytes (3 * p + 2) }

-- "Each move starts where the last one ended": move t goes from point t to point t + 1
unfoldable pub move_of : List ℕ → ℕ → Move
move_of bytes t = record { kind = kind_of (value (kind_byte t) bytes); start = point_of bytes t; end = point_of bytes (t + 1) }

-- c moves from move t on
unfoldable pub moves_from : List ℕ → ℕ → ℕ → List Move
moves_from bytes t zero = []
moves_from bytes t (suc c) = move_of bytes t ∷ moves_from bytes (t + 1) c

-- all moves of a list
abbrev pub moves_of : List ℕ → List Move
moves_of bytes = moves_from bytes 0 (value count bytes)

-- ---- refusals: k where the test holds, else the next

-- whether one of c kind bytes from move t on is neither 0 nor 1
unfoldable pub unknown_among : List ℕ → ℕ → ℕ → Bool
unknown_among bytes t zero = false
unknown_among bytes t (suc c) = cond (ltb 1 (value (kind_byte t) bytes)) true (unknown_among bytes (t + 1) c)

-- 28 unknown kind byte
unfoldable pub refusal_of_kinds : List ℕ → ℕ → ℕ
refusal_of_kinds bytes n = refuse (unknown_among bytes 0 n) 28 0

-- 20 a number of the whole file not finite
unfoldable pub refusal_of_numbers : List ℕ → ℕ → ℕ
refusal_of_numbers bytes n = refuse (somewhere (first_bad (number_of bytes) 0 (numbers n))) 20 (refusal_of_kinds bytes n)

-- 19 length under 34 + 25n, 21 over it
unfoldable pub refusal_of_length : List ℕ → ℕ → ℕ
refusal_of_length bytes n = refuse_length (length_rule (shape n) (length bytes)) (refusal_of_numbers bytes n)

-- 18 count over 65,536; 0 passes
unfoldable pub refusal_of_count : List ℕ → ℕ → ℕ
refusal_of_count bytes n = refuse (ltb most n) 18 (refusal_of_length bytes n)

-- 14 under 34 bytes; 15 mark; 16 version; 17 sixth byte not 0
unfoldable pub refusal_of : List ℕ → ℕ
refusal_of bytes =
    refuse (ltb (length bytes) 34) 14
    (refuse (not (eqb (value mark bytes) letters)) 15
    (refuse (not (eqb (value version bytes) 1)) 16
    (refuse (not (eqb (value zero_byte bytes) 0)) 17
    (refusal_of_count bytes (value count bytes)))))

-- ---- what is told

-- how many moves are told with refusal k of a list of n moves: with 19 those that stand whole before the cut, else none
unfoldable pub told_of_count : ℕ → ℕ → List ℕ → ℕ
told_of_count n k bytes = cond (eqb k 19) (whole_in (shape n) (length bytes)) 0

-- the same of the count that these bytes hold
unfoldable pub told_with : ℕ → List ℕ → ℕ
told_with k bytes = told_of_count (value count bytes) k bytes

-- ---- the lists that are accepted: exactly these are

pub record Sound (bytes : List ℕ) : Type 0 where
  pub marked : value mark bytes ≡ letters
  pub first : value version bytes ≡ 1
  pub clear : value zero_byte bytes ≡ 0
  pub few : value count bytes ≤ most
  pub whole : length bytes ≡ 34 + 25 * value count bytes
  pub finite_all : (k : ℕ) → k < numbers (value count bytes) → finite (number_of bytes k) ≡ true
  pub known : (t : ℕ) → t < value count bytes → value (kind_byte t) bytes ≤ 1

-- k is 0 where the list is sound, and only there
abbrev pub SoundExactly : List ℕ → ℕ → Type 0
SoundExactly bytes k = (k ≡ 0 → Sound bytes) × (Sound bytes → k ≡ 0)

-- ---- broken copies

-- the shape of the list that these bytes begin
abbrev pub shape_of : List ℕ → Shape
shape_of bytes = shape (value count bytes)

-- Of an accepted list every part is refused, with 14 where it is shorter than 34 bytes, else with 19; with any bytes behind it the list is refused with 21.
-- The number of whole moves that stand before the cut is not among the numbers that C is answered.
abbrev pub NeverTakenForAPart : List ℕ → Type 0
NeverTakenForAPart bytes = ToldApart refusal_of (λ xs. whole_in (shape_of xs) (length xs)) (shape_of bytes) bytes
