-- Document 01, "Mesh, grid and marks" and "Refusal numbers", 2: which numbers a mesh may hold, and a question.
use Rattle.std.specs.Prelude.{Bool, ◌&&◌, Float}
use Rattle.std.specs.Float.Ieee.{le}
use Rattle.numbers.specs.Reals.{f0, million, abs_of, three_million}

-- A coordinate, or a floor: finite with magnitude at most 1e6.
unfoldable pub is_coordinate : Float → Bool
is_coordinate x = le (abs_of x) million

-- An index radius: 0 <= r <= 1e6, where -0.0 counts as zero.
unfoldable pub is_radius : Float → Bool
is_radius r = le f0 r && le r million

-- A coordinate of a question's point is finite, with magnitude at most 3e6.
unfoldable pub is_point : Float → Bool
is_point x = le (abs_of x) three_million
