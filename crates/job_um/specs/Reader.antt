-- Document 02, request 11: version 2 of the job, in whole micrometres. Head, order and length are those of every version; a number is an i32.
use Rattle.std.specs.Prelude.{cond, ◌≡◌, List, ◌++◌, ℕ, ◌*◌, ◌/◌, eqb, ℤ, pos, length, drop, Result, Ok, Err}
use Rattle.fields.specs.Little.{value}
use Rattle.fields.specs.Rows.{row}
use Rattle.fields.specs.Copies.{ToldApart}
use Rattle.job.specs.Layout.{triangles, questions, number, mesh_from, questions_from, narrow}
use Rattle.job.specs.Head.{refusal_of_head, shape_in, told_in, Headed}
use Rattle.job.specs.Reader as version1
use Rattle.micro.specs.Micro.{whole_of}
use Rattle.refusals.specs.Numbers as refusals
use Rattle.refusals.specs.declared.Refusal.{Refusal}
use Rattle.job_um.specs.declared.Job.{Job}

-- number k of a job, from its bits
unfoldable pub number_of : List ℕ → ℕ → ℤ
number_of bytes k = whole_of (value (number narrow k) bytes)

-- 14 under 22 bytes; 15; 16 version not 2; 17; 18; 19 length under 22 + 36n + 20m; 21 over it. Every i32 is read, so that 20 is never given.
unfoldable pub refusal_of : List ℕ → ℕ → ℕ → ℕ
refusal_of bytes nroom mroom = refusal_of_head narrow 2 bytes nroom mroom 0

-- The answer by its numbers: a refused job has zeros beside its number, but that 19 tells in n how many triangles stand whole before the cut.
pub record Read : Type 0 where
  pub refusal : ℕ
  pub n : ℕ
  pub m : ℕ
  pub floor : ℤ
  pub radius : ℤ

abbrev pub told : Result Job Refusal → Read
told (Ok j) = record { refusal = 0; n = j.n; m = j.m; floor = j.floor; radius = j.radius }
told (Err r) = record { refusal = refusals.number_of r; n = refusals.told_of r; m = 0; floor = pos 0; radius = pos 0 }

-- the answer, and both lent tables afterwards
pub record Outcome : Type 0 where
  pub answer : Read
  pub mesh : List ℤ
  pub questions : List ℤ

abbrev pub ended : Read → List ℤ → List ℤ → Outcome
ended a ms qs = record { answer = a; mesh = ms; questions = qs }

-- a refusal leaves both tables as they were, and all numbers are zero but that 19 tells the triangles that stand whole before the cut
abbrev pub refused_by : ℕ → List ℕ → Read
refused_by k bytes = record { refusal = k; n = told_in narrow k bytes; m = 0; floor = pos 0; radius = pos 0 }

-- an accepted job's numbers stand first in each table, and the entries beyond them stay
unfoldable pub accepted_of : List ℕ → ℕ → ℕ → List ℤ → List ℤ → Outcome
accepted_of bytes n m mesh qs =
    ended
    (record { refusal = 0; n = n; m = m; floor = number_of bytes 0; radius = number_of bytes 1 })
    (row (number_of bytes) mesh_from (9 * n) ++ drop (9 * n) mesh)
    (row (number_of bytes) (questions_from n) (5 * m) ++ drop (5 * m) qs)

-- room is a table's length over nine or five, rounded down
unfoldable pub read_of : List ℕ → List ℤ → List ℤ → Outcome
read_of bytes mesh qs =
    let k = refusal_of bytes (length mesh / 9) (length qs / 5) in
    cond (eqb k 0) (accepted_of bytes (value triangles bytes) (value questions bytes) mesh qs) (ended (refused_by k bytes) mesh qs)

-- ---- what follows

-- k is 0 exactly where head and length pass
abbrev pub SoundExactly : List ℕ → ℕ → ℕ → ℕ → Type 0
SoundExactly bytes nroom mroom k = (k ≡ 0 → Headed narrow 2 bytes nroom mroom) × (Headed narrow 2 bytes nroom mroom → k ≡ 0)

-- Of an accepted job every part is refused, with 14 where it is shorter than 22 bytes, else with 19 and the number of whole triangles that stand in it;
-- with any bytes behind it the job is refused with 21.
abbrev pub NeverTakenForAPart : List ℕ → List ℤ → List ℤ → Type 0
NeverTakenForAPart bytes mesh qs = ToldApart (λ xs. (read_of xs mesh qs).answer.refusal) (λ xs. (read_of xs mesh qs).answer.n) (shape_in narrow bytes) bytes

-- A reader of version 1, with any room, refuses it with 16.
abbrev pub OtherVersion : List ℕ → Type 0
OtherVersion bytes = (nroom mroom : ℕ) → version1.refusal_of bytes nroom mroom ≡ 16

-- What an accepted job, whose refusal k is 0, is promised.
abbrev pub AcceptedPromise : List ℕ → List ℤ → List ℤ → ℕ → Type 0
AcceptedPromise bytes mesh qs k = k ≡ 0 → NeverTakenForAPart bytes mesh qs × OtherVersion bytes
