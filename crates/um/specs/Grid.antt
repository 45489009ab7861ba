-- Document 02, request 11: the grid over a mesh in whole micrometres, and the cells that a triangle covers. All numbers are counted from the least i32.
use Rattle.std.specs.Prelude.{Bool, List, ℕ, zero, suc, ◌+◌, ◌-◌, ◌*◌, ◌/◌, ◌^◌, min, max, eqb, ℤ, length, Option, None, Some}
use Rattle.cells.specs.Cover.{Cover, covers, area_of}
use Rattle.cells.specs.Inside.{sums}
use Rattle.cells.specs.declared.Cells.{Cells}
use Rattle.grid.specs.Build.{refusal_of_grid}
use Rattle.micro.specs.declared.Box.{Box}
use Rattle.micro.specs.Micro.{box_of, first_where}
use Rattle.um.specs.declared.Extent.{Extent}
use Rattle.um.specs.declared.Grid.{Grid}
use Rattle.um.specs.declared.Stretch.{Stretch}

-- The triangles of a mesh: 9 numbers each.
abbrev pub triangles_in : List ℤ → ℕ
triangles_in mesh = length mesh / 9

-- lo and hi are the x and y extremes of the first n triangles, of which there is at least one.
unfoldable pub widened : Extent → Box → Extent
widened e b =
    record {
      left = min e.left b.low_x;
      right = max e.right b.high_x;
      bottom = min e.bottom b.low_y;
      top = max e.top b.high_y;
    }

unfoldable pub extent_of : List ℤ → ℕ → Extent
extent_of mesh zero = record { left = 4294967295; right = 0; bottom = 4294967295; top = 0 }
extent_of mesh (suc n) = widened (extent_of mesh n) (box_of mesh n)

-- Cells on an axis: (hi - lo) / cell + 1 in whole numbers.
abbrev pub cells_along : ℕ → ℕ → ℕ → ℕ
cells_along lo hi cell = (hi - lo) / cell + 1

-- The grid with its origin at the least x and y and cells of one size.
unfoldable pub grid_of : Extent → ℕ → Grid
grid_of e cell =
    record {
      x = e.left;
      y = e.bottom;
      cell = cell;
      columns = cells_along e.left e.right cell;
      rows = cells_along e.bottom e.top cell;
    }

-- A size fits where its columns, rows and cells are within document 01's limits and the lent starts.
unfoldable pub fits : Extent → ℕ → ℕ → Bool
fits e lent cell =
    eqb (refusal_of_grid (cells_along e.left e.right cell) (cells_along e.bottom e.top cell) lent) 0

-- The cell is the smallest power of two from 1 to 2 ^ 31 that fits; 0 where none does.
unfoldable pub power_at : Option ℕ → ℕ
power_at None = 0
power_at (Some k) = 2 ^ k

unfoldable pub size_of : Extent → ℕ → ℕ
size_of e lent = power_at (first_where (λ k. fits e lent (2 ^ k)) 0 32)

-- How many cells a grid has.
abbrev pub cells_in : Grid → ℕ
cells_in g = g.rows * g.columns

-- The cells that a triangle covers on an axis: from (min - lo) / cell to (max - lo) / cell, the end held to the last cell.
unfoldable pub stretch_of : ℕ → ℕ → ℕ → ℕ → ℕ → Stretch
stretch_of origin cell count low high = record { first = (low - origin) / cell; last = min ((high - origin) / cell) (count - 1) }

-- The cells that triangle i covers.
unfoldable pub cells_of : List ℤ → Grid → ℕ → Cells
cells_of mesh g i =
    let b = box_of mesh i in
    let x = stretch_of g.x g.cell g.columns b.low_x b.high_x in
    let y = stretch_of g.y g.cell g.rows b.low_y b.high_y in
    record { left = x.first; right = x.last; bottom = y.first; top = y.last }

-- Which triangle covers which cell of a grid.
abbrev pub cover_of : List ℤ → Grid → Cover
cover_of mesh g i c = covers g.columns (cells_of mesh g i) c

-- How many members the cells of n triangles have together.
unfoldable pub total_of : List ℤ → Grid → ℕ → ℕ
total_of mesh g n = sums (λ i. area_of (cells_of mesh g i)) n
