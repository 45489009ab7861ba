-- What a chord's C function leaves behind: its answer, the lent marks, and the fixed array with the rest of the library's answer.
use Rattle.std.specs.Prelude.{cond, List, [], ◌∷◌, ◌≡◌, ℕ, eqb, get_or}
use Rattle.ask.specs.Ask.{Ruling}
use Rattle.ask.specs.Ask.{Finding}
use Rattle.ask.specs.Ask.{Neither, Clear, Blocked}
use Rattle.ask.specs.Ask.{Outcome, finding_number}

-- A chord asked: the refusal, the marks; the verdict's number, the count and the stamp afterwards.
pub record VerdictLeft : Type 0 where
  pub refusal : ℕ
  pub marks : List ℕ
  pub counts : List ℕ

abbrev pub verdict_left : ℕ → List ℕ → List ℕ → VerdictLeft
verdict_left k ms ns = record { refusal = k; marks = ms; counts = ns }

unfoldable pub verdict_left_by : Outcome Ruling → VerdictLeft
verdict_left_by o =
    let a = o.answer in
    verdict_left a.refusal o.marks (finding_number a.finding ∷ a.count ∷ a.stamp ∷ [])

-- The ruling that C reads off its array: the verdict's number is 1 for clear, 2 for blocked, else there is none.
abbrev pub finding_from : ℕ → Finding
finding_from n = cond (eqb n 1) Clear (cond (eqb n 2) Blocked Neither)

abbrev pub ruling_from : ℕ → List ℕ → Ruling
ruling_from k ns = record { refusal = k; finding = finding_from (get_or ns 0 0); count = get_or ns 1 0; stamp = get_or ns 2 0 }

-- What C's array holds where the ruling a was laid into it, and the refusal beside it.
abbrev pub Laid : ℕ → List ℕ → Ruling → Type 0
Laid k ns a = (k ≡ a.refusal) × (ns ≡ (finding_number a.finding ∷ a.count ∷ a.stamp ∷ []))
