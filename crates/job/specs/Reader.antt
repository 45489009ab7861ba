-- Document 01, "The job file": which jobs are refused, and what reading one answers and leaves in the lent tables.
use Rattle.std.specs.Prelude.{true, cond, ◌≡◌, List, ◌++◌, ℕ, ◌*◌, ◌/◌, ◌≤◌, ◌<◌, eqb, Float, length, drop, Result, Ok, Err}
use Rattle.std.specs.Float.{binary64}
use Rattle.refusals.specs.Numbers as refusals
use Rattle.refusals.specs.declared.Refusal.{Refusal}
use Rattle.std.specs.Float.Ieee.{of_bits}
use Rattle.numbers.specs.Reals.{f0}
use Rattle.fields.specs.Little.{value}
use Rattle.fields.specs.Rows.{finite, row, first_bad, somewhere}
use Rattle.rules.specs.Ladder.{refuse}
use Rattle.rules.specs.Limits.{most}
use Rattle.fields.specs.Copies.{ToldApart}
use Rattle.fields.specs.declared.Shape.{Shape}
use Rattle.job.specs.Layout.{mark, version, zero_byte, triangles, questions, number, letters, wide, numbers, mesh_from, questions_from, bytes_of}
use Rattle.job.specs.Head.{refusal_of_head, shape_in, told_in}
use Rattle.job.specs.declared.Job.{Job}

-- number k of a job, from its bits
unfoldable pub number_of : List ℕ → ℕ → Float
number_of bytes k = of_bits binary64 (value (number wide k) bytes)

-- 20 a number not finite
unfoldable pub refusal_of_numbers : List ℕ → ℕ → ℕ
refusal_of_numbers bytes count = refuse (somewhere (first_bad (number_of bytes) 0 count)) 20 0

-- 14 to 19 and 21 as the head and the length decide, of version 1; then 20
unfoldable pub refusal_of : List ℕ → ℕ → ℕ → ℕ
refusal_of bytes nroom mroom =
    refusal_of_head wide 1 bytes nroom mroom
    (refusal_of_numbers bytes (numbers (value triangles bytes) (value questions bytes)))

-- ---- reading

-- The answer by its numbers: a refused job has zeros beside its number, but that 19 tells in n how many triangles stand whole before the cut.
pub record Read : Type 0 where
  pub refusal : ℕ
  pub n : ℕ
  pub m : ℕ
  pub floor : Float
  pub radius : Float

abbrev pub told : Result Job Refusal → Read
told (Ok j) = record { refusal = 0; n = j.n; m = j.m; floor = j.floor; radius = j.radius }
told (Err r) = record { refusal = refusals.number_of r; n = refusals.told_of r; m = 0; floor = f0; radius = f0 }

-- the answer, and both lent tables afterwards
pub record Outcome : Type 0 where
  pub answer : Read
  pub mesh : List Float
  pub questions : List Float

abbrev pub ended : Read → List Float → List Float → Outcome
ended a ms qs = record { answer = a; mesh = ms; questions = qs }

-- the shape of the job that these bytes begin
abbrev pub shape_of : List ℕ → Shape
shape_of bytes = shape_in wide bytes

-- how many triangles are told with refusal k
abbrev pub told_with : ℕ → List ℕ → ℕ
told_with k bytes = told_in wide k bytes

-- a refusal leaves both tables as they were, and all numbers but that count are zero
abbrev pub refused_by : ℕ → List ℕ → Read
refused_by k bytes = record { refusal = k; n = told_with k bytes; m = 0; floor = f0; radius = f0 }

-- an accepted job's numbers stand first in each table, and the entries beyond them stay
unfoldable pub accepted_of : List ℕ → ℕ → ℕ → List Float → List Float → Outcome
accepted_of bytes n m mesh qs =
    ended
    (record { refusal = 0; n = n; m = m; floor = number_of bytes 0; radius = number_of bytes 1 })
    (row (number_of bytes) mesh_from (9 * n) ++ drop (9 * n) mesh)
    (row (number_of bytes) (questions_from n) (5 * m) ++ drop (5 * m) qs)

-- room is a table's length over nine or five, rounded down
unfoldable pub read_of : List ℕ → List Float → List Float → Outcome
read_of bytes mesh qs =
    let k = refusal_of bytes (length mesh / 9) (length qs / 5) in
    cond (eqb k 0) (accepted_of bytes (value triangles bytes) (value questions bytes) mesh qs) (ended (refused_by k bytes) mesh qs)

-- ---- the jobs that are accepted: exactly these are

pub record Sound (bytes : List ℕ) (nroom mroom : ℕ) : Type 0 where
  pub marked : value mark bytes ≡ letters
  pub first : value version bytes ≡ 1
  pub clear : value zero_byte bytes ≡ 0
  pub some : 1 ≤ value triangles bytes
  pub few : (value triangles bytes ≤ most) × (value triangles bytes ≤ nroom)
  pub few_questions : (value questions bytes ≤ most) × (value questions bytes ≤ mroom)
  pub whole : length bytes ≡ bytes_of wide (value triangles bytes) (value questions bytes)
  pub finite_all : (k : ℕ) → k < numbers (value triangles bytes) (value questions bytes) → finite (number_of bytes k) ≡ true

-- k is 0 where the job is sound, and only there
abbrev pub SoundExactly : List ℕ → ℕ → ℕ → ℕ → Type 0
SoundExactly bytes nroom mroom k = (k ≡ 0 → Sound bytes nroom mroom) × (Sound bytes nroom mroom → k ≡ 0)

-- ---- broken copies

-- Of an accepted job every part is refused, with 14 where it is shorter than 30 bytes, else with 19 and the number of whole triangles that stand in it;
-- with any bytes behind it the job is refused with 21.
abbrev pub NeverTakenForAPart : List ℕ → List Float → List Float → Type 0
NeverTakenForAPart bytes mesh qs = ToldApart (λ xs. (read_of xs mesh qs).answer.refusal) (λ xs. (read_of xs mesh qs).answer.n) (shape_of bytes) bytes
