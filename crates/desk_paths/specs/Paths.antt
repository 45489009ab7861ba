-- What the C function of request 12 leaves behind: the refusal, the marks, and the verdict as three numbers.
use Rattle.std.specs.Prelude.{List, [], ◌∷◌, ◌≡◌, ℕ, Float}
use Rattle.grid.specs.Index.{Index}
use Rattle.look_over.specs.declared.Verdict.{Verdict}
use Rattle.look_over.specs.Verdict.{Outcome, verdict_number, bad_number, reason_number, Judged}

-- 0 none, 1 passes, 2 does not; the first bad move; 1 blocked rapid, 2 changed z, 3 cut too deep: 1, 0, 0 where it passes
abbrev pub finding_of : Verdict → List ℕ
finding_of v = verdict_number v ∷ bad_number v ∷ reason_number v ∷ []

pub record LookedLeft : Type 0 where
  pub refusal : ℕ
  pub marks : List ℕ
  pub finding : List ℕ

abbrev pub looked_left : ℕ → List ℕ → List ℕ → LookedLeft
looked_left k ms fs = record { refusal = k; marks = ms; finding = fs }

unfoldable pub looked_left_by : Outcome → LookedLeft
looked_left_by o = looked_left o.answer.refusal o.marks (finding_of o.answer.verdict)

-- The three numbers of an accepted list are those of a verdict that passes exactly when all moves do, and else names the first bad one.
pub record Told (bytes : List ℕ) (ix : Index) (table : List Float) (tolerance : Float) (finding : List ℕ) : Type 0 where
  pub verdict : Verdict
  pub numbers : finding ≡ finding_of verdict
  pub judged : Judged bytes ix table tolerance verdict
