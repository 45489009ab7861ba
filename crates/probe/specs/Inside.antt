-- What the parts of the run search promise each other: what a question asks of the tables and the marks, and when a piece is halved.
use Rattle.std.specs.Prelude.{Bool, true, false, cond, not, List, ◌⊎◌, ◌≡◌, ℕ, ◌*◌, ◌≤◌, eqb, Float, length, get_or}
use Rattle.std.specs.Float.Ieee.{lt, le}
use Rattle.numbers.specs.Reals.{◌⊖◌, abs_of}
use Rattle.grid.specs.Index.{Index}
use Rattle.walk.specs.Inside.{Walkable}
use Rattle.runs.specs.declared.Run.{Run}
use Rattle.runs.specs.Runs.{length_of}

-- Every question over the mesh can be walked.
pub record Askable (ix : Index) : Type 0 where
  pub nine : length ix.mesh ≡ ix.header.n * 9
  pub five : length ix.boxes ≡ ix.header.n * 5
  pub few : ix.header.n ≤ 65536
  pub walkable : (x0 x1 y0 y1 : ℕ) → x1 ≤ ix.header.columns → y1 ≤ ix.header.rows
      → Walkable ix.starts ix.members ix.header.n ix.header.columns x0 x1 y0 y1

-- The search's own marks: none is above its stamp.
pub record Marked (n stamp : ℕ) (marks : List ℕ) : Type 0 where
  pub size : length marks ≡ n
  pub below : (i : ℕ) → get_or marks i 0 ≤ stamp

-- Whether a piece with `left` halvings left is halved: it is not clear, and not as short as `least`.
unfoldable pub splits_of : Bool → Float → ℕ → Run → Bool
splits_of clear least left r = cond clear false (cond (eqb left 0) false (not (le (length_of r) least)))

-- A height h that decides what the height u decides against a limit: it is u, or both are above the limit.
abbrev pub Decides : Float → Float → Float → Type 0
Decides limit u h = (h ≡ u) ⊎ ((lt limit h ≡ true) × (lt limit u ≡ true))

-- A limit above which nothing is within the tolerance of a level.
abbrev pub BeyondLevel : Float → Float → Float → Type 0
BeyondLevel level tolerance limit = (v : Float) → lt limit v ≡ true → le (abs_of (v ⊖ level)) tolerance ≡ false
