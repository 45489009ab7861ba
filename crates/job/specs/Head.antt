-- Document 01, "The job file", and document 02, request 11: what the head and the length of a job decide. It is the same in every version: v is the version,
-- and w the bytes of a number.
use Rattle.std.specs.Prelude.{not, cond, List, ◌≡◌, ℕ, ◌≤◌, eqb, ltb, length}
use Rattle.fields.specs.Little.{value}
use Rattle.rules.specs.Ladder.{refuse}
use Rattle.rules.specs.Limits.{most}
use Rattle.fields.specs.Room.{too_many}
use Rattle.fields.specs.Length.{whole_in, length_rule, refuse_length}
use Rattle.fields.specs.declared.Shape.{Shape}
use Rattle.job.specs.Layout.{mark, version, zero_byte, triangles, questions, letters, head_bytes, shape, bytes_of}

-- ---- the refusals in their order; `late` is what comes behind them

-- 19 length under that of n triangles and m questions (30 + 72n + 40m in version 1); 21 over it
unfoldable pub refusal_of_length : ℕ → List ℕ → ℕ → ℕ → ℕ → ℕ
refusal_of_length w bytes n m late = refuse_length (length_rule (shape w n m) (length bytes)) late

-- 18 n of 0, or n or m over 65,536 or over the lent room
unfoldable pub refusal_of_counts : ℕ → List ℕ → ℕ → ℕ → ℕ → ℕ → ℕ → ℕ
refusal_of_counts w bytes n m nroom mroom late =
    refuse (eqb n 0) 18
    (refuse (too_many n nroom) 18
    (refuse (too_many m mroom) 18
    (refusal_of_length w bytes n m late)))

-- 14 under the head's bytes (30 in version 1); 15 mark; 16 version; 17 sixth byte not 0
unfoldable pub refusal_of_head : ℕ → ℕ → List ℕ → ℕ → ℕ → ℕ → ℕ
refusal_of_head w v bytes nroom mroom late =
    refuse (ltb (length bytes) (head_bytes w)) 14
    (refuse (not (eqb (value mark bytes) letters)) 15
    (refuse (not (eqb (value version bytes) v)) 16
    (refuse (not (eqb (value zero_byte bytes) 0)) 17
    (refusal_of_counts w bytes (value triangles bytes) (value questions bytes) nroom mroom late))))

-- ---- what is told

-- the shape of the job that these bytes begin
abbrev pub shape_in : ℕ → List ℕ → Shape
shape_in w bytes = shape w (value triangles bytes) (value questions bytes)

-- how many triangles are told with refusal k of a job of n triangles and m questions: with 19 those that stand whole before the cut, else none
unfoldable pub told_of_counts : ℕ → ℕ → ℕ → ℕ → List ℕ → ℕ
told_of_counts w n m k bytes = cond (eqb k 19) (whole_in (shape w n m) (length bytes)) 0

-- the same of the counts that these bytes hold
unfoldable pub told_in : ℕ → ℕ → List ℕ → ℕ
told_in w k bytes = cond (eqb k 19) (whole_in (shape_in w bytes) (length bytes)) 0

-- ---- the jobs whose head and length pass: exactly these
pub record Headed (w v : ℕ) (bytes : List ℕ) (nroom mroom : ℕ) : Type 0 where
  pub marked : value mark bytes ≡ letters
  pub first : value version bytes ≡ v
  pub clear : value zero_byte bytes ≡ 0
  pub some : 1 ≤ value triangles bytes
  pub few : (value triangles bytes ≤ most) × (value triangles bytes ≤ nroom)
  pub few_questions : (value questions bytes ≤ most) × (value questions bytes ≤ mroom)
  pub whole : length bytes ≡ bytes_of w (value triangles bytes) (value questions bytes)
