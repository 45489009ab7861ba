-- Document 02, request 2: what is written reads back to the same numbers, and what is read is written to the same bytes.
use Rattle.std.specs.Prelude.{◌≡◌, List, ◌++◌, ℕ, ◌*◌, ◌/◌, ◌≤◌, ◌<◌, Float, length, get_or, take, drop}
use Rattle.job.specs.Reader as reader
use Rattle.job.specs.Reader.{read_of}
use Rattle.writer.specs.Writer.{Outcome}

module _ (mesh : List Float) (floor radius : Float) (qs : List Float) where
  -- Given room (tables ms and ns at least as long), the reader takes the job that was written, and gives the very numbers of which it was made.
  abbrev pub ReadsBack : Outcome → Type 0
  ReadsBack o =
      o.answer.refusal ≡ 0 →
      (ms ns : List Float) →
      length mesh ≤ length ms →
      length qs ≤ length ns →
      read_of (take o.answer.length o.bytes) ms ns
      ≡ reader.ended
      (record { refusal = 0; n = length mesh / 9; m = length qs / 5; floor = floor; radius = radius })
      (mesh ++ drop (length mesh) ms)
      (qs ++ drop (length qs) ns)

  -- What a reading of a file gave: these are its numbers.
  pub record ReadFrom (a : reader.Outcome) : Type 0 where
    pub accepted : a.answer.refusal ≡ 0
    pub mesh_is : mesh ≡ take (9 * a.answer.n) a.mesh
    pub floor_is : floor ≡ a.answer.floor
    pub radius_is : radius ≡ a.answer.radius
    pub questions_is : qs ≡ take (5 * a.answer.m) a.questions

  -- Where the numbers were read from a file, into any tables, and there is room for it, what is written is that file, in number and order of its bytes.
  abbrev pub WritesAgain : ℕ → Outcome → Type 0
  WritesAgain room o =
      (file : List ℕ) →
      ((i : ℕ) → get_or file i 0 < 256) →
      (ms ns : List Float) →
      ReadFrom (read_of file ms ns) →
      length file ≤ room →
      (o.answer.refusal ≡ 0) × (o.answer.length ≡ length file) × (take (length file) o.bytes ≡ file)
