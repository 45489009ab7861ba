-- Document 02, request 3: which STL files are refused, and what reading one answers and leaves in the lent mesh.
use Rattle.std.specs.Prelude.{Bool, true, cond, List, ◌++◌, ◌≡◌, ℕ, ◌+◌, ◌*◌, ◌/◌, ◌%◌, ◌≤◌, ◌<◌, eqb, ltb, Float, length, drop, Result, Ok, Err}
use Rattle.fields.specs.declared.Shape.{Shape}
use Rattle.fields.specs.Little.{value}
use Rattle.fields.specs.Rows.{finite, row, first_bad, somewhere}
use Rattle.rules.specs.Ladder.{refuse}
use Rattle.rules.specs.Limits.{most}
use Rattle.fields.specs.Room.{too_many}
use Rattle.fields.specs.Length.{length_rule, refuse_length, whole_in}
use Rattle.fields.specs.Copies.{ToldApart}
use Rattle.single.specs.Single.{value_of}
use Rattle.stl.specs.Layout.{count, vertex_number, shape}
use Rattle.refusals.specs.Numbers as refusals
use Rattle.refusals.specs.declared.Refusal.{Refusal}

-- Number k of the mesh is number k % 9 of triangle k / 9: the value of its bits.
unfoldable pub number_of : List ℕ → ℕ → Float
number_of bytes k = value_of (value (vertex_number (k / 9) (k % 9)) bytes)

-- ---- refusals: k where the test holds, else the next

-- whether one of c numbers from number k on is not finite
unfoldable pub bad_among : List ℕ → ℕ → ℕ → Bool
bad_among bytes k c = somewhere (first_bad (number_of bytes) k c)

-- 20 a vertex number not finite
unfoldable pub refusal_of_numbers : List ℕ → ℕ → ℕ
refusal_of_numbers bytes n = refuse (bad_among bytes 0 (9 * n)) 20 0

-- 19 length under 84 + 50n, 21 over it
unfoldable pub refusal_of_length : List ℕ → ℕ → ℕ
refusal_of_length bytes n = refuse_length (length_rule (shape n) (length bytes)) (refusal_of_numbers bytes n)

-- 18 n of 0, over 65,536 or over the lent room
unfoldable pub refusal_of_count : List ℕ → ℕ → ℕ → ℕ
refusal_of_count bytes n room =
    refuse (eqb n 0) 18
    (refuse (too_many n room) 18
    (refusal_of_length bytes n))

-- 14 under 84 bytes
unfoldable pub refusal_of : List ℕ → ℕ → ℕ
refusal_of bytes room = refuse (ltb (length bytes) 84) 14 (refusal_of_count bytes (value count bytes) room)

-- ---- reading

-- The answer by its numbers: a refusal, or 0, and the triangles read; after 19 those that stand whole before the cut, else none.
pub record Read : Type 0 where
  pub refusal : ℕ
  pub n : ℕ

abbrev pub told : Result ℕ Refusal → Read
told (Ok n) = record { refusal = 0; n = n }
told (Err r) = record { refusal = refusals.number_of r; n = refusals.told_of r }

-- the answer, and the lent mesh afterwards
pub record Outcome : Type 0 where
  pub answer : Read
  pub mesh : List Float

abbrev pub ended : Read → List Float → Outcome
ended a ms = record { answer = a; mesh = ms }

-- the shape of the file that these bytes begin
abbrev pub shape_of : List ℕ → Shape
shape_of bytes = shape (value count bytes)

-- how many triangles are told with refusal k of a file of n triangles: with 19 those that stand whole before the cut, else none
unfoldable pub told_of_count : ℕ → ℕ → List ℕ → ℕ
told_of_count n k bytes = cond (eqb k 19) (whole_in (shape n) (length bytes)) 0

-- the same of the count that these bytes hold: with 19 those that stand whole before the cut, else none
unfoldable pub told_with : ℕ → List ℕ → ℕ
told_with k bytes = cond (eqb k 19) (whole_in (shape_of bytes) (length bytes)) 0

-- a refusal leaves the mesh as it was
abbrev pub refused_by : ℕ → List ℕ → Read
refused_by k bytes = record { refusal = k; n = told_with k bytes }

-- an accepted file's numbers stand first in the mesh, nine a triangle, and the entries beyond them stay
unfoldable pub accepted_of : List ℕ → ℕ → List Float → Outcome
accepted_of bytes n mesh = ended (record { refusal = 0; n = n }) (row (number_of bytes) 0 (9 * n) ++ drop (9 * n) mesh)

-- room is the mesh's length over nine, rounded down
unfoldable pub read_of : List ℕ → List Float → Outcome
read_of bytes mesh =
    let k = refusal_of bytes (length mesh / 9) in
    cond (eqb k 0) (accepted_of bytes (value count bytes) mesh) (ended (refused_by k bytes) mesh)

-- ---- the files that are accepted: exactly these are

pub record Sound (bytes : List ℕ) (room : ℕ) : Type 0 where
  pub some : 1 ≤ value count bytes
  pub few : (value count bytes ≤ most) × (value count bytes ≤ room)
  pub whole : length bytes ≡ 84 + 50 * value count bytes
  pub finite_all : (k : ℕ) → k < 9 * value count bytes → finite (number_of bytes k) ≡ true

-- k is 0 where the file is sound, and only there
abbrev pub SoundExactly : List ℕ → ℕ → ℕ → Type 0
SoundExactly bytes room k = (k ≡ 0 → Sound bytes room) × (Sound bytes room → k ≡ 0)

-- ---- broken copies

-- Of an accepted file every part is refused, with 14 where it is shorter than 84 bytes, else with 19 and the number of whole triangles that stand in it;
-- with any bytes behind it the file is refused with 21.
abbrev pub NeverTakenForAPart : List ℕ → List Float → Type 0
NeverTakenForAPart bytes mesh = ToldApart (λ xs. (read_of xs mesh).answer.refusal) (λ xs. (read_of xs mesh).answer.n) (shape_of bytes) bytes
