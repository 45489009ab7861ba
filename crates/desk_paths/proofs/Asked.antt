-- A list looked over through C's arrays. What the library says of the header h that was read from them holds of the header g that they stand for.
use mathlib.Core.List.{List, [], ◌∷◌}
use mathlib.Core.Path.{◌≡◌, refl, ap, subst, ◌∙◌}
use Prim.Native.Nat.{ℕ}
use lib.Ieee.{Float}
use Rattle.grid.specs.declared.Header.{Header}
use Rattle.grid.specs.Index.{Index}
use Rattle.std.specs.Prelude.{Result, Ok, Err}
use Rattle.std.specs.Result.{result_unwrap_or}
use Rattle.refusals.specs.declared.Refusal.{Refusal}
use Rattle.refusals.specs.Numbers.{code_of}
use Rattle.look_over.specs.declared.Verdict.{Verdict}
use Rattle.look_over.specs.declared.Verdict.TheVariants.{Unsaid}
use Rattle.look_over.specs.Verdict.{Looked, told, Outcome, ended, verdict_number, bad_number, reason_number, Judged}
use Rattle.desk_paths.specs.Paths.{finding_of, looked_left, looked_left_by, Told}

-- the verdict and the number of an answer are those that it is told by
pub verdict_in : (a : Result Verdict Refusal) → result_unwrap_or a Unsaid ≡ (told a).verdict
verdict_in (Ok v) = refl
verdict_in (Err e) = refl

pub refusal_in : (a : Result Verdict Refusal) → code_of a ≡ (told a).refusal
unfolding code_of
refusal_in (Ok v) = refl
refusal_in (Err e) = refl

module _ (h g : Header) (same : h ≡ g) (ix : Header → Index) (bytes : List ℕ) (table : List Float) (tolerance : Float) where
  pub look_told : (asked : Index → Outcome) (a : Looked) (marks : List ℕ) (v b r : ℕ) → v ≡ verdict_number a.verdict → b ≡ bad_number a.verdict
      → r ≡ reason_number a.verdict
      → ended a marks ≡ asked (ix h)
      → (a.refusal ≡ 0 → Judged bytes (ix h) table tolerance a.verdict)
      → (looked_left a.refusal marks (v ∷ b ∷ r ∷ []) ≡ looked_left_by (asked (ix g))) × (a.refusal ≡ 0 → Told bytes (ix g) table tolerance (v ∷ b ∷ r ∷ []))
  unfolding looked_left_by
  look_told asked a marks v b r p q s e j =
      let n : ◌≡◌ {A = List ℕ} (v ∷ b ∷ r ∷ []) (finding_of a.verdict) = rw (p, q, s) in (
        ap (looked_left a.refusal marks) n ∙ ap looked_left_by (e ∙ ap (λ (k : Header). asked (ix k)) same),
        λ z. record { verdict = a.verdict; numbers = n; judged = subst (λ (k : Header). Judged bytes (ix k) table tolerance a.verdict) same (j z) },
      )
