-- Document 01, "Questions" and "Refusal numbers": what `max_height` answers, and the marks that it leaves.
use Rattle.std.specs.Prelude.{Bool, true, ◌&&◌, List, ℕ, Float}
use Rattle.plane.specs.Ranges.{is_radius, is_point}
use Rattle.grid.specs.Index.{Index}
use Rattle.ask.specs.Ask.{Answer}
use Rattle.ask.specs.Ask.{Outcome, asked_height}
use Rattle.height.specs.Sweep.{Sweep, patch_for, capsule_for, disk_step}

-- 2: the numbers of a sweep in their ranges
unfoldable pub are_points : Float → Float → Float → Float → Bool
are_points px py qx qy = is_point px && (is_point py && (is_point qx && is_point qy))

unfoldable pub is_sweep : Sweep → Bool
is_sweep s = are_points s.px s.py s.qx s.qy && is_radius s.r

-- max_height: 1, 23, 2 and 7, since a disk has no corner and no section that 8 could refuse; reach is the radius.
unfoldable pub max_height_of : Index → List ℕ → ℕ → Sweep → Outcome Answer
max_height_of ix marks stamp s =
    asked_height (is_sweep s) true (disk_step ix.mesh ix.boxes (capsule_for ix.header s)) ix marks stamp (patch_for ix.header s)
