-- Document 01, refusal 1 of every question, and what 7 asks of the marks.
use Rattle.std.specs.Prelude.{Bool, ◌&&◌, List, ℕ, ◌*◌, ◌≤◌, ◌<◌, eqb, leb, Float, length, get_or}
use Rattle.rules.specs.Limits.{most}

-- 1: the mesh is nine numbers for each mark, of which there are at most 65,536.
unfoldable pub is_marked : List Float → List ℕ → Bool
is_marked mesh marks = leb (length marks) most && eqb (length mesh) (length marks * 9)

-- 7, of the marks: none is above the stamp that is handed with them.
abbrev pub NoneAbove : ℕ → List ℕ → Type 0
NoneAbove stamp marks = (i : ℕ) → i < length marks → get_or marks i 0 ≤ stamp
