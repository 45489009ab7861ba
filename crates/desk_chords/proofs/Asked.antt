-- A chord asked through C's arrays. What the library says of the header h that was read from them holds of the header g that they stand for: its verdict
-- laid out, and what it promises, L.
use mathlib.Core.List.{List}
use mathlib.Core.Path.{◌≡◌, refl, ap, sym, subst, ◌∙◌}
use Prim.Native.Nat.{ℕ}
use Rattle.grid.specs.declared.Header.{Header}
use Rattle.ask.specs.Ask.{Ruling}
use Rattle.ask.specs.Ask.{Finding}
use Rattle.ask.specs.Ask.{Neither, Clear, Blocked}
use Rattle.ask.specs.Ask.{Outcome, ended, finding_number}
use Rattle.desk_chords.specs.Verdicts.{verdict_left, verdict_left_by, finding_from, ruling_from, Laid}

-- C's number of a verdict says which it is.
finding_back : (f : Finding) → finding_from (finding_number f) ≡ f
unfolding finding_number
finding_back Neither = refl
finding_back Clear = refl
finding_back Blocked = refl

module _ (h g : Header) (same : h ≡ g) where
  -- of a verdict C gets the number
  pub verdict_told : (asked : Header → Outcome Ruling) (L : Header → Ruling → Type 0) (a : Ruling) (marks : List ℕ) (k : ℕ) (ns : List ℕ) → Laid k ns a
      → ended a marks ≡ asked h → L h a → (verdict_left k marks ns ≡ verdict_left_by (asked g)) × L g (ruling_from k ns)
  unfolding verdict_left_by
  verdict_told asked L a marks k ns i e l =
      rw (i.0, i.1) (
        ap verdict_left_by (e ∙ ap asked same),
        subst (λ (f : Finding). L g (record { refusal = a.refusal; finding = f; count = a.count; stamp = a.stamp }))
            (sym (finding_back a.finding)) (subst (λ (u : Header). L u a) same l),
      )
