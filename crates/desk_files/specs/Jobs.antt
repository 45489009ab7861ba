-- What the C functions over job files leave behind: the answer, the lent tables, and the fixed arrays with the rest of the library's answer.
use Rattle.std.specs.Prelude.{List, [], ◌∷◌, ℕ, Float}
use Rattle.job.specs.Reader as reader

-- A job read: the refusal, both tables, floor and radius, the numbers of triangles and questions.
pub record JobLeft : Type 0 where
  pub refusal : ℕ
  pub mesh : List Float
  pub questions : List Float
  pub measures : List Float
  pub sizes : List ℕ

abbrev pub job_left : ℕ → List Float → List Float → List Float → List ℕ → JobLeft
job_left k ms qs fs ns = record { refusal = k; mesh = ms; questions = qs; measures = fs; sizes = ns }

unfoldable pub job_left_by : reader.Outcome → JobLeft
job_left_by o =
    let a = o.answer in
    job_left a.refusal o.mesh o.questions (a.floor ∷ a.radius ∷ []) (a.n ∷ a.m ∷ [])
