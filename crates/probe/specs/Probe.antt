-- Document 01, "Levels and runs": heights along a row. A sample is on the level where the tool rests there; a run is kept where it is clear.
use Rattle.std.specs.Prelude.{Bool, ℕ, Float, replicate}
use Rattle.std.specs.Float.Ieee.{le}
use Rattle.numbers.specs.Reals.{◌⊕◌, ◌⊖◌, abs_of}
use Rattle.grid.specs.Index.{Index}
use Rattle.height.specs.Sweep.{sweep, sweep_walk}
use Rattle.runs.specs.declared.Run.{Run}
use Rattle.rows.specs.declared.Lane.{Lane}
use Rattle.rows.specs.Lanes.{between}
use Rattle.probe.specs.declared.Aim.{Aim}

-- The swept-disk height under a run, at the header's radius, asked with wiped marks.
unfoldable pub height_under : Index → Run → Float
height_under ix r = (sweep_walk ix (replicate ix.header.n 0) 0 (sweep r.ax r.ay r.bx r.by ix.header.r)).value.height

-- ---- over any height under a run
module _ (under : Run → Float) where
  -- Whether the tool rests on the level at sample k: its height there is within level tolerance.
  unfoldable pub on_level : Aim → Lane → ℕ → Bool
  on_level a l k = le (abs_of (under (between l k k) ⊖ a.level)) a.level_tolerance

  -- Whether a run is clear: no part point under it stands above its z + tolerance.
  unfoldable pub clear : Aim → Run → Bool
  clear a r = le (under r) (r.z ⊕ a.tolerance)
