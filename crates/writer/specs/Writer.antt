-- Document 02, request 2: the bytes of a job, which jobs are refused, and what writing one answers and leaves in the lent bytes. The fields are those of
-- the table by which a job is read.
use Rattle.std.specs.Prelude.{not, cond, ◌≡◌, refl, List, [], ◌∷◌, ◌++◌, ℕ, zero, suc, ◌+◌, ◌/◌, ◌%◌, eqb, ltb, Float, length, drop, Result, Ok, Err}
use Rattle.std.specs.Float.{binary64}
use Rattle.std.specs.Float.Ieee.{to_bits}
use Rattle.job.specs.Layout.{mark, version, zero_byte, triangles, questions, number, bytes_of, letters, wide}
use Rattle.fields.specs.Little.{Field}
use Rattle.fields.specs.Rows.{all_finite}
use Rattle.rules.specs.Ladder.{refuse}
use Rattle.rules.specs.Limits.{most}
use Rattle.refusals.specs.Numbers.{number_of}
use Rattle.refusals.specs.declared.Refusal.{Refusal}

-- ---- the bytes of a job

-- The k bytes of a number, little endian: the first is worth least.
unfoldable pub digits : ℕ → ℕ → List ℕ
digits zero v = []
digits (suc k) v = v % 256 ∷ digits k (v / 256)

-- The bytes of a field that holds v.
abbrev pub laid : Field → ℕ → List ℕ
laid f v = digits f.size v

-- The numbers of a job in the table's order.
abbrev pub numbers_in : List Float → Float → Float → List Float → List Float
numbers_in mesh floor radius qs = floor ∷ radius ∷ mesh ++ qs

-- Numbers one after the other, each by its bits.
unfoldable pub laid_all : List Float → List ℕ
laid_all [] = []
laid_all (x ∷ xs) = digits wide (to_bits binary64 x) ++ laid_all xs

-- The fields before the numbers, n triangles and m questions.
unfoldable pub head_of : ℕ → ℕ → List ℕ
head_of n m = laid mark letters ++ laid version 1 ++ laid zero_byte 0 ++ laid triangles n ++ laid questions m

-- A job: its fields in the table's order.
unfoldable pub job_of : ℕ → ℕ → List Float → List ℕ
job_of n m xs = head_of n m ++ laid_all xs

-- The job of a mesh, nine numbers a triangle, and of questions, five each.
abbrev pub job_in : List Float → Float → Float → List Float → List ℕ
job_in mesh floor radius qs = job_of (length mesh / 9) (length qs / 5) (numbers_in mesh floor radius qs)

-- In the table each field begins where the one before it ends, the first at 0, so that in order is at its place.
abbrev Meet : Field → Field → Type 0
Meet f g = f.at + f.size ≡ g.at

in_order : (mark.at ≡ 0) × Meet mark version × Meet version zero_byte × Meet zero_byte triangles × Meet triangles questions × Meet questions (number wide 0)
in_order = (refl, refl, refl, refl, refl, refl)

-- ---- refusals, in order: k where the test holds, else the next

-- how many bytes the job of a mesh and questions has
abbrev pub size_of : List Float → List Float → ℕ
size_of mesh qs = bytes_of wide (length mesh / 9) (length qs / 5)

module _ (mesh : List Float) (floor radius : Float) (qs : List Float) (room : ℕ) where
  -- 20 a number not finite; 22 room shorter than the job
  unfoldable pub refusal_of_numbers : ℕ
  refusal_of_numbers =
      refuse (not (all_finite (numbers_in mesh floor radius qs))) 20
      (refuse (ltb room (size_of mesh qs)) 22 0)

  -- 18 no triangle, or over 65,536 questions
  unfoldable pub refusal_of_counts : ℕ
  refusal_of_counts =
      refuse (eqb (length mesh) 0) 18
      (refuse (ltb most (length qs / 5)) 18
      refusal_of_numbers)

  -- 1 mesh not a multiple of nine or over 65,536 triangles, or questions not a multiple of five
  unfoldable pub refusal_of : ℕ
  refusal_of =
      refuse (not (eqb (length mesh % 9) 0)) 1
      (refuse (ltb most (length mesh / 9)) 1
      (refuse (not (eqb (length qs % 5) 0)) 1
      refusal_of_counts))

-- ---- writing

-- The answer by its numbers: 0 and how many bytes the job has, or the refusal and 0.
pub record Written : Type 0 where
  pub refusal : ℕ
  pub length : ℕ

abbrev pub told : Result ℕ Refusal → Written
told (Ok n) = record { refusal = 0; length = n }
told (Err r) = record { refusal = number_of r; length = 0 }

-- the answer, and the lent bytes afterwards
pub record Outcome : Type 0 where
  pub answer : Written
  pub bytes : List ℕ

abbrev pub ended : Written → List ℕ → Outcome
ended a bs = record { answer = a; bytes = bs }

-- a refusal leaves the bytes as they were
abbrev pub refused_by : ℕ → Written
refused_by k = record { refusal = k; length = 0 }

-- an accepted job's bytes stand first, and those beyond it stay
unfoldable pub accepted_of : List Float → Float → Float → List Float → List ℕ → Outcome
accepted_of mesh floor radius qs bytes =
    ended
    (record { refusal = 0; length = size_of mesh qs })
    (job_in mesh floor radius qs ++ drop (size_of mesh qs) bytes)

unfoldable pub write_of : List Float → Float → Float → List Float → List ℕ → Outcome
write_of mesh floor radius qs bytes =
    let k = refusal_of mesh floor radius qs (length bytes) in
    cond (eqb k 0) (accepted_of mesh floor radius qs bytes) (ended (refused_by k) bytes)
