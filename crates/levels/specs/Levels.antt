-- Document 01, "Levels and runs": levels. A level is five numbers (z, low x, low y, high x, high y).
use Rattle.std.specs.Prelude.{Bool, List, [], ◌∷◌, ◌++◌, ℕ, Float, length, drop}
use Rattle.std.specs.Float.Ieee.{le}
use Rattle.numbers.specs.Reals.{◌⊕◌, ◌⊖◌, min_of, max_of}
use Rattle.plane.specs.Mesh.{triangle_of}
use Rattle.plane.specs.declared.Triangle.{Triangle}
use Rattle.plane.specs.declared.Bounds.{Bounds}
use Rattle.grid.specs.Boxes.{box_at}
use Rattle.fives.specs.Groups.{grouped}
use Rattle.sort.specs.Ranks.{before, sorted_by}
use Rattle.levels.specs.Flats.{flats_of}
use Rattle.levels.specs.declared.Level.{Level}

-- The level that a triangle with the box b opens: its z, and its box.
unfoldable pub opened_by : Triangle → Bounds → Level
opened_by t b = record { z = t.az; low_x = b.low_x; low_y = b.low_y; high_x = b.high_x; high_y = b.high_y }

-- A triangle joins the current level if level z - its z <= level tolerance.
unfoldable pub joins_level : Float → Level → Triangle → Bool
joins_level levelTolerance l t = le (l.z ⊖ t.az) levelTolerance

-- The level that a triangle with the box b has joined: level z is the group's first; the box grows.
unfoldable pub widened_by : Level → Bounds → Level
widened_by l b =
    record {
      z = l.z;
      low_x = min_of l.low_x b.low_x;
      low_y = min_of l.low_y b.low_y;
      high_x = max_of l.high_x b.high_x;
      high_y = max_of l.high_y b.high_y;
    }

-- The levels of triangles, in the order of their numbers in a list, with their boxes as the box table has them.
unfoldable pub levels_from : List Float → List Float → Float → List ℕ → List Level
levels_from mesh boxes levelTolerance is =
    grouped (λ l i. joins_level levelTolerance l (triangle_of mesh i)) (λ l i. widened_by l (box_at boxes i)) (λ i. opened_by (triangle_of mesh i) (box_at boxes i)) is

-- The flat triangles of a mesh of n, sorted by z falling, equal ones in mesh order.
unfoldable pub sorted_flats : List Float → ℕ → Float → Float → Float → List ℕ
sorted_flats mesh n tolerance levelTolerance floor = sorted_by (before mesh) (flats_of mesh tolerance (floor ⊕ levelTolerance) n)

-- What the search for levels leaves of a lent list: these numbers in front, and the rest as it was.
unfoldable pub list_left : List Float → ℕ → Float → Float → Float → List ℕ → List ℕ
list_left mesh n tolerance levelTolerance floor list =
    sorted_flats mesh n tolerance levelTolerance floor ++ drop (length (flats_of mesh tolerance (floor ⊕ levelTolerance) n)) list

-- The levels of a mesh of n triangles.
unfoldable pub levels_of : List Float → List Float → ℕ → Float → Float → Float → List Level
levels_of mesh boxes n tolerance levelTolerance floor = levels_from mesh boxes levelTolerance (sorted_flats mesh n tolerance levelTolerance floor)

-- A level's five numbers.
abbrev pub five_of : Level → List Float
five_of l = l.z ∷ l.low_x ∷ l.low_y ∷ l.high_x ∷ l.high_y ∷ []
