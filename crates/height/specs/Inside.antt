-- What the parts of the swept-disk height promise each other; no answer is defined here.
use Rattle.std.specs.Prelude.{List, ℕ}
use Rattle.plane.specs.declared.Best.{Best}
use Rattle.walk.specs.Walk.{Walk}
use Rattle.walk.specs.Inside.{Walkable}
use Rattle.grid.specs.Index.{Index}
use Rattle.query.specs.declared.Patch.{Patch}
use Rattle.height.specs.declared.Swept.{Swept}

-- what a walk found, with its marks
abbrev pub walk_left : Swept → List ℕ → Walk Best
walk_left s m = record { marks = m; count = s.count; value = s.best }

-- the cells p of an index of n triangles can be walked
abbrev pub Sweepable : Index → ℕ → Patch → Type 0
Sweepable ix n p = Walkable ix.starts ix.members n ix.header.columns p.x0 p.x1 p.y0 p.y1
