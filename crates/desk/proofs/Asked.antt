-- A question asked through C's arrays. What the library says of the header h that was read from them holds of the header g that they stand for: its answer laid
-- out, and what it promises, L.
use mathlib.Core.List.{List}
use mathlib.Core.Path.{◌≡◌, ap, subst, ◌∙◌}
use Prim.Native.Nat.{ℕ}
use lib.Ieee.{Float}
use Rattle.grid.specs.declared.Header.{Header}
use Rattle.ask.specs.Ask.{Answer}
use Rattle.ask.specs.Ask.{Outcome, ended}
use Rattle.desk.specs.Doors.{height_left, height_left_by, answer_from, Laid}

module _ (h g : Header) (same : h ≡ g) where
  pub height_told : (asked : Header → Outcome Answer) (L : Header → Answer → Type 0) (a : Answer) (marks : List ℕ) (k : ℕ) (fs : List Float) (ns ts : List ℕ)
      → Laid k fs ns ts a → ended a marks ≡ asked h → L h a → (height_left k marks fs ns ts ≡ height_left_by (asked g)) × L g (answer_from k fs ns ts)
  unfolding height_left_by
  height_told asked L a marks k fs ns ts i e l =
      rw (i.0, i.1, i.2, i.3) (ap height_left_by (e ∙ ap asked same), subst (λ (u : Header). L u a) same l)
