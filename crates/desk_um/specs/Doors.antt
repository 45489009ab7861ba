-- What the C functions in whole micrometres leave behind: the answer, the lent tables, and the fixed arrays with the rest of the library's answer.
use Rattle.std.specs.Prelude.{cond, List, [], ◌∷◌, ℕ, eqb, ℤ, pos, get_or}
use Rattle.ask.specs.Ask as asked
use Rattle.micro.specs.Micro.{counted, number_of}
use Rattle.job_um.specs.Reader as reader
use Rattle.um.specs.declared.Header.{Header}
use Rattle.um.specs.Build as build
use Rattle.um.specs.Index.{Index, index_of}
use Rattle.setup.specs.declared.Question.{Question}
use Rattle.setup.specs.Answer.{Answer}

-- A job read: the refusal, both tables, floor and radius, the numbers of triangles and questions.
pub record JobLeft : Type 0 where
  pub refusal : ℕ
  pub mesh : List ℤ
  pub questions : List ℤ
  pub measures : List ℤ
  pub sizes : List ℕ

abbrev pub job_left : ℕ → List ℤ → List ℤ → List ℤ → List ℕ → JobLeft
job_left k ms qs fs ns = record { refusal = k; mesh = ms; questions = qs; measures = fs; sizes = ns }

unfoldable pub job_left_by : reader.Outcome → JobLeft
job_left_by o =
    let a = o.answer in
    job_left a.refusal o.mesh o.questions (a.floor ∷ a.radius ∷ []) (a.n ∷ a.m ∷ [])

-- A header as C holds it: its measures (origin x, origin y, floor, r) and its sizes (n, columns, rows, cell).
abbrev pub measures_of : Header → List ℤ
measures_of h = number_of h.x ∷ number_of h.y ∷ number_of h.floor ∷ number_of h.r ∷ []

abbrev pub sizes_of : Header → List ℕ
sizes_of h = h.n ∷ h.columns ∷ h.rows ∷ h.cell ∷ []

-- An index built: the refusal, both tables, measures and sizes, and which number was bad; a refusal leaves zeros in measures and sizes.
pub record BuiltLeft : Type 0 where
  pub refusal : ℕ
  pub starts : List ℕ
  pub members : List ℕ
  pub measures : List ℤ
  pub sizes : List ℕ
  pub bad : List ℕ

abbrev pub built_left : ℕ → List ℕ → List ℕ → List ℤ → List ℕ → List ℕ → BuiltLeft
built_left k s m fs ns bs = record { refusal = k; starts = s; members = m; measures = fs; sizes = ns; bad = bs }

unfoldable pub built_left_by : build.Outcome → BuiltLeft
built_left_by o =
    let k = o.built.refusal in
    let h = o.built.header in
    let bad = o.built.triangle ∷ o.built.number ∷ [] in
    cond (eqb k 0)
    (built_left k o.starts o.members (measures_of h) (sizes_of h) bad)
    (built_left k o.starts o.members (pos 0 ∷ pos 0 ∷ pos 0 ∷ pos 0 ∷ []) (0 ∷ 0 ∷ 0 ∷ 0 ∷ []) bad)

-- The header that C hands over.
unfoldable pub header_from : List ℤ → List ℕ → Header
header_from fs ns =
    record {
      n = get_or ns 0 0;
      x = counted (get_or fs 0 (pos 0));
      y = counted (get_or fs 1 (pos 0));
      floor = counted (get_or fs 2 (pos 0));
      r = counted (get_or fs 3 (pos 0));
      columns = get_or ns 1 0;
      rows = get_or ns 2 0;
      cell = get_or ns 3 0;
    }

-- The index that C hands over.
abbrev pub index_from : List ℤ → List ℤ → List ℕ → List ℕ → List ℕ → Index
index_from mesh fs ns starts members = index_of mesh (header_from fs ns) starts members

-- The question that C hands over.
abbrev pub question_from : ℤ → ℤ → ℤ → ℤ → ℤ → Question
question_from px py qx qy r = record { px = counted px; py = counted py; qx = counted qx; qy = counted qy; r = counted r }

-- A set-up height asked: the refusal, the marks, the height, and the triangles looked at, the stamp afterwards and the boxes that meet.
pub record HeightLeft : Type 0 where
  pub refusal : ℕ
  pub marks : List ℕ
  pub height : List ℤ
  pub counts : List ℕ

abbrev pub height_left : ℕ → List ℕ → List ℤ → List ℕ → HeightLeft
height_left k ms hs ns = record { refusal = k; marks = ms; height = hs; counts = ns }

unfoldable pub height_left_by : asked.Outcome Answer → HeightLeft
height_left_by o =
    let a = o.answer in
    height_left a.refusal o.marks (number_of a.height ∷ []) (a.count ∷ a.stamp ∷ a.met ∷ [])

-- The answer that C reads off its arrays.
abbrev pub answer_from : ℕ → List ℤ → List ℕ → Answer
answer_from k hs ns = record { refusal = k; height = counted (get_or hs 0 (pos 0)); count = get_or ns 0 0; stamp = get_or ns 1 0; met = get_or ns 2 0 }
