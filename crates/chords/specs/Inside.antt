-- What the parts of a chord question promise each other.
use Rattle.std.specs.Prelude.{Bool, true, List, ℕ, Float}
use Rattle.std.specs.Float.Ieee.{le}
use Rattle.numbers.specs.Reals.{◌⊕◌, min_of}
use Rattle.walk.specs.Walk.{chased, next_stamp}
use Rattle.grid.specs.Index.{Index}
use Rattle.query.specs.declared.Patch.{Patch}
use Rattle.query.specs.Looked.{within}
use Rattle.reach.specs.declared.Chord.{Chord}
use Rattle.ask.specs.Ask.{Ruling}
use Rattle.ask.specs.Ask.{begun, Outcome, ruling_of}

-- The lower tip is no lower than the height z, lifted.
unfoldable pub is_under : Float → Chord → Bool
is_under z m = le (z ⊕ m.lift) (min_of m.az m.bz)

-- The question with the cells p where nothing is left to refuse.
unfoldable pub ruled_chord : Bool → (ℕ → Bool) → Index → List ℕ → ℕ → Patch → Outcome Ruling
ruled_chord early blocks ix marks stamp p = ruling_of 0 early marks stamp (chased (next_stamp stamp) blocks (begun marks stamp true) (within ix p))
