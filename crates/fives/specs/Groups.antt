-- Document 01, "Levels and runs": levels and joined runs are both made by going through a list once. The first opens a group; each next one joins the
-- current group or opens the next.
use Rattle.std.specs.Prelude.{Bool, cond, List, [], ◌∷◌}

module _ {A B : Type 0} (joins : A → B → Bool) (add : A → B → A) (first : B → A) where
  -- The groups of a list, g being the current one.
  unfoldable pub grouping : A → List B → List A
  grouping g [] = g ∷ []
  grouping g (b ∷ bs) = cond (joins g b) (grouping (add g b) bs) (g ∷ grouping (first b) bs)

  -- The groups of a list.
  unfoldable pub grouped : List B → List A
  grouped [] = []
  grouped (b ∷ bs) = grouping (first b) bs

-- What is said of each of a list.
unfoldable pub Each : {A : Type 0} → (A → Type 0) → List A → Type 0
Each P [] = Unit
Each P (x ∷ xs) = P x × Each P xs
