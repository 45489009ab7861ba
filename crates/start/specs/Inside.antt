-- What the parts promise each other where a level's walks begin higher than at the floor; no answer is defined here.
use Rattle.std.specs.Prelude.{true, false, List, ◌⊎◌, ◌≡◌, ℕ, Float}
use Rattle.std.specs.Float.Ieee.{le}
use Rattle.numbers.specs.Reals.{◌⊕◌, ◌⊖◌, abs_of}
use Rattle.plane.specs.Mesh.{triangle_of}
use Rattle.tops.specs.Inside.{margin, is_start, lies_low}
use Rattle.grid.specs.declared.Header.{Header}
use Rattle.grid.specs.Boxes.{box_at}
use Rattle.runs.specs.declared.Run.{Run}
use Rattle.probe.specs.declared.Aim.{Aim}
use Rattle.probe.specs.Probe.{clear}

-- Triangle i is looked at by every walk whose best is at most `from`, or no height of it is above `from`.
abbrev pub Apart : List Float → List Float → Float → ℕ → Type 0
Apart mesh boxes from i = (le (box_at boxes i).top from ≡ false) ⊎ (lies_low (from ⊖ margin) (triangle_of mesh i) ≡ true)

-- Nothing that is at most `from` is within the tolerance of a level.
abbrev pub UnderLevel : Float → Float → Float → Type 0
UnderLevel level tolerance from = (v : Float) → le v from ≡ true → le (abs_of (v ⊖ level)) tolerance ≡ false

-- What a number has to be so that the walks of a level, whose cuts lie at z, may begin there: not under the floor, off the level, and clear.
pub record Begins (floor : Float) (a : Aim) (z from : Float) : Type 0 where
  pub over : le floor from ≡ true
  pub start : is_start from ≡ true
  pub clears : le from (z ⊕ a.tolerance) ≡ true
  pub off : UnderLevel a.level a.level_tolerance from

-- The header with another floor.
abbrev pub with_floor : Header → Float → Header
with_floor h z =
    record {
      n = h.n;
      origin_x = h.origin_x;
      origin_y = h.origin_y;
      cell = h.cell;
      columns = h.columns;
      rows = h.rows;
      floor = z;
      eps = h.eps;
      r = h.r;
    }

-- Heights `other` decide what the heights `under` decide of a level's rows, whose cuts lie at z: each sample is on the level or not, each piece clear or not.
pub record Serves (under other : Run → Float) (a : Aim) (z : Float) : Type 0 where
  pub on : (r : Run) → le (abs_of (other r ⊖ a.level)) a.level_tolerance ≡ le (abs_of (under r ⊖ a.level)) a.level_tolerance
  pub clears : (r : Run) → r.z ≡ z → clear other a r ≡ clear under a r
