-- What the C function of request 4's raising leaves behind: its answer, the mesh and its boxes, the new header and which number was bad.
use Rattle.std.specs.Prelude.{cond, List, [], ◌∷◌, ℕ, eqb, Float, get_or}
use Rattle.numbers.specs.Reals.{f0}
use Rattle.grid.specs.Build.{Built}
use Rattle.handed.specs.Handed.{measures_of, sizes_of, header_from}
use Rattle.raise.specs.Raise.{Raised}

-- The answer that C reads off its arrays.
abbrev pub built_from : ℕ → List Float → List ℕ → List ℕ → Built
built_from k fs ns bs = record { refusal = k; triangle = get_or bs 0 0; number = get_or bs 1 0; header = header_from fs ns }

-- A refusal leaves zeros in measures and sizes, and any outcome but 4 leaves zeros in the last.
pub record RaisedLeft : Type 0 where
  pub refusal : ℕ
  pub mesh : List Float
  pub boxes : List Float
  pub measures : List Float
  pub sizes : List ℕ
  pub bad : List ℕ

abbrev pub raised_left : ℕ → List Float → List Float → List Float → List ℕ → List ℕ → RaisedLeft
raised_left k mesh boxes fs ns bs = record { refusal = k; mesh = mesh; boxes = boxes; measures = fs; sizes = ns; bad = bs }

unfoldable pub raised_left_by : Raised → RaisedLeft
raised_left_by o =
    let k = o.answer.refusal in
    let h = o.answer.header in
    let bad = o.answer.triangle ∷ o.answer.number ∷ [] in
    cond (eqb k 0)
    (raised_left k o.mesh o.boxes (measures_of h) (sizes_of h) bad)
    (raised_left k o.mesh o.boxes (f0 ∷ f0 ∷ f0 ∷ f0 ∷ f0 ∷ f0 ∷ []) (0 ∷ 0 ∷ 0 ∷ []) bad)
