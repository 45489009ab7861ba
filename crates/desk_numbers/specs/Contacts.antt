-- What the C functions over one triangle leave behind: the answer and its fixed array.
use Rattle.std.specs.Prelude.{Bool, true, false, List, [], ◌∷◌, ℕ, Float, None, Option, Some}
use Rattle.numbers.specs.Reals.{f0, num}
use Rattle.plane.specs.declared.Contact.{Contact}
use Rattle.section.specs.declared.Section.{Section}

-- A contact as C sees it: whether there is one, its height, and its touch: 1 a corner, 2 an edge, 3 the face, then which of three; all 0 if there is none.
pub record ContactLeft : Type 0 where
  pub met : Bool
  pub height : List Float
  pub touched : List ℕ

abbrev pub contact_left : Bool → List Float → List ℕ → ContactLeft
contact_left b hs ts = record { met = b; height = hs; touched = ts }

unfoldable pub contact_left_by : Option Contact → ContactLeft
contact_left_by None = contact_left false (f0 ∷ []) (0 ∷ 0 ∷ [])
contact_left_by (Some m) = contact_left true (m.height ∷ []) (m.touch.kind ∷ m.touch.which ∷ [])

-- A section from its four numbers.
unfoldable pub section_from : List Float → Section
section_from xs = record { z0 = num xs 0; r0 = num xs 1; r1 = num xs 2; rise = num xs 3 }
