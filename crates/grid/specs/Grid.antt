-- Document 01, "Mesh, grid and marks": the grid over a mesh, and the cells that a triangle covers.
use Rattle.std.specs.Prelude.{List, ℕ, ◌*◌, ◌/◌, length, Float}
use Rattle.spans.specs.Mesh.{box_of, extent_of}
use Rattle.spans.specs.Axis.{span_of, size_of, cells_along, stretch_of}
use Rattle.cells.specs.Cover.{Cover, covers, area_of}
use Rattle.cells.specs.Inside.{sums}
use Rattle.cells.specs.declared.Cells.{Cells}
use Rattle.grid.specs.declared.Grid.{Grid}

-- The triangles of a mesh: 9 numbers each.
abbrev pub triangles_in : List Float → ℕ
triangles_in mesh = length mesh / 9

-- The grid over the first n triangles, for an index radius r.
unfoldable pub grid_of : List Float → ℕ → Float → Grid
grid_of mesh n r =
    let e = extent_of mesh n in
    let size = size_of n (span_of e r) r in
    record {
      x = e.left;
      y = e.bottom;
      size = size;
      columns = cells_along e.left e.right size;
      rows = cells_along e.bottom e.top size;
    }

-- How many cells a grid has.
abbrev pub cells_in : Grid → ℕ
cells_in g = g.rows * g.columns

-- The cells that triangle i covers: on each axis from (min-lo)/cell to (max-lo)/cell.
unfoldable pub cells_of : List Float → Grid → ℕ → Cells
cells_of mesh g i =
    let b = box_of mesh i in
    let x = stretch_of g.x g.size g.columns b.low_x b.high_x in
    let y = stretch_of g.y g.size g.rows b.low_y b.high_y in
    record { left = x.first; right = x.last; bottom = y.first; top = y.last }

-- Which triangle covers which cell of a grid.
abbrev pub cover_of : List Float → Grid → Cover
cover_of mesh g i c = covers g.columns (cells_of mesh g i) c

-- How many members the cells of n triangles have together.
unfoldable pub total_of : List Float → Grid → ℕ → ℕ
total_of mesh g n = sums (λ i. area_of (cells_of mesh g i)) n
