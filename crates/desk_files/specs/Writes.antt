-- What the C function that writes a job leaves behind: the answer, the lent bytes, and the array with the job's length.
use Rattle.std.specs.Prelude.{List, [], ◌∷◌, ℕ, get_or}
use Rattle.writer.specs.Writer as writer

-- A job written: the refusal, the bytes, the job's length.
pub record WrittenLeft : Type 0 where
  pub refusal : ℕ
  pub bytes : List ℕ
  pub size : List ℕ

abbrev pub written_left : ℕ → List ℕ → List ℕ → WrittenLeft
written_left k bs ns = record { refusal = k; bytes = bs; size = ns }

unfoldable pub written_left_by : writer.Outcome → WrittenLeft
written_left_by o = written_left o.answer.refusal o.bytes (o.answer.length ∷ [])

-- What C reads off its arrays.
abbrev pub written_from : ℕ → List ℕ → List ℕ → writer.Outcome
written_from k bs ns = writer.ended (record { refusal = k; length = get_or ns 0 0 }) bs
