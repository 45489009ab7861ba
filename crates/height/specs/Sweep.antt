-- Document 01, "Questions": the swept-disk height, from p to q with radius r, over the triangles that its walk looks at.
use Rattle.std.specs.Prelude.{cond, List, ℕ, Float, Option}
use Rattle.std.specs.Float.Ieee.{le}
use Rattle.plane.specs.declared.Contact.{Contact}
use Rattle.plane.specs.Mesh.{triangle_of}
use Rattle.capsule.specs.declared.Capsule.{Capsule}
use Rattle.capsule.specs.Region.{capsule_of}
use Rattle.capsule.specs.Candidates.{highest_in}
use Rattle.plane.specs.declared.Best.{Best}
use Rattle.walk.specs.Walk.{Walk, walked, next_stamp}
use Rattle.grid.specs.declared.Header.{Header}
use Rattle.grid.specs.Boxes.{box_at}
use Rattle.grid.specs.Index.{Index}
use Rattle.query.specs.declared.Patch.{Patch}
use Rattle.query.specs.Patch.{patch_of}
use Rattle.query.specs.Looked.{within}
use Rattle.ask.specs.Ask.{at_floor, begun}
use Rattle.plane.specs.Contacts.{raised_by}

-- A sweep: a disk of radius r moved from p to q.
pub record Sweep : Type 0 where
  pub px : Float
  pub py : Float
  pub qx : Float
  pub qy : Float
  pub r : Float

abbrev pub sweep : Float → Float → Float → Float → Float → Sweep
sweep px py qx qy r = record { px = px; py = py; qx = qx; qy = qy; r = r }

-- Its cells: reach is the radius.
abbrev pub patch_for : Header → Sweep → Patch
patch_for h s = patch_of h s.px s.py s.qx s.qy s.r

-- The capsule that the disk sweeps, with the header's eps.
abbrev pub capsule_for : Header → Sweep → Capsule
capsule_for h s = capsule_of s.px s.py s.qx s.qy s.r h.eps

-- The computed height of triangle i in a capsule: none, or a height.
unfoldable pub height_of : List Float → Capsule → ℕ → Option Contact
height_of mesh q i = highest_in q (triangle_of mesh i)

-- One triangle of the walk: it counts only where its top, as the box table has it, is above the best so far.
unfoldable pub disk_step : List Float → List Float → Capsule → Best → ℕ → Best
disk_step mesh boxes q best i = cond (le (box_at boxes i).top best.height) best (raised_by (height_of mesh q i) i best)

-- The walk with a capsule over the cells p: it begins at the header's floor, with the next stamp.
unfoldable pub capsule_walk : Index → List ℕ → ℕ → Capsule → Patch → Walk Best
capsule_walk ix marks stamp q p =
    walked (next_stamp stamp) (disk_step ix.mesh ix.boxes q) (begun marks stamp (at_floor ix.header.floor)) (within ix p)

-- The walk of a sweep.
unfoldable pub sweep_walk : Index → List ℕ → ℕ → Sweep → Walk Best
sweep_walk ix marks stamp s = capsule_walk ix marks stamp (capsule_for ix.header s) (patch_for ix.header s)
