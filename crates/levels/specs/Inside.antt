-- What the parts of the level search promise each other.
use Rattle.std.specs.Prelude.{cond, List, ℕ, ◌+◌, ◌*◌, Float, set}
use Rattle.numbers.specs.Reals.{num}
use Rattle.plane.specs.Mesh.{triangle_of}
use Rattle.plane.specs.declared.Triangle.{Triangle}
use Rattle.plane.specs.declared.Bounds.{Bounds}
use Rattle.fives.specs.Tables.{put_at}
use Rattle.levels.specs.Flats.{is_flat}
use Rattle.levels.specs.Levels.{opened_by, joins_level, widened_by, five_of}
use Rattle.levels.specs.declared.Level.{Level}
use Rattle.levels.specs.declared.Group.{Group}

-- A list with k numbers in front, and how many there are.
pub record Listed : Type 0 where
  pub list : List ℕ
  pub k : ℕ

abbrev pub listed : List ℕ → ℕ → Listed
listed l k = record { list = l; k = k }

-- Triangle i behind the first k, if it is flat.
unfoldable pub gathered_one : List Float → Float → Float → List ℕ → ℕ → ℕ → Listed
gathered_one mesh tolerance least l k i = cond (is_flat (triangle_of mesh i) tolerance least) (listed (set l k i) (k + 1)) (listed l k)

-- The table of levels, the level that is open, and how many stand in front of it.
pub record Grown : Type 0 where
  pub table : List Float
  pub group : Group

abbrev pub grown : List Float → Group → Grown
grown t g = record { table = t; group = g }

-- One triangle more.
unfoldable pub grown_by : Float → List Float → Group → Triangle → Bounds → Grown
grown_by levelTolerance t g i b =
    cond (joins_level levelTolerance g.level i) (grown t (record { level = widened_by g.level b; count = g.count }))
    (grown (put_at t g.count (five_of g.level)) (record { level = opened_by i b; count = g.count + 1 }))

-- Level m of a table.
abbrev pub level_in : List Float → ℕ → Level
level_in t m = record { z = num t (m * 5); low_x = num t (m * 5 + 1); low_y = num t (m * 5 + 2); high_x = num t (m * 5 + 3); high_y = num t (m * 5 + 4) }
