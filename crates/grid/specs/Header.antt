-- Document 01, "Mesh, grid and marks": what a header records, and its ranges.
use Rattle.std.specs.Prelude.{Bool, ◌&&◌, List, ℕ, ◌*◌, Float}
use Rattle.std.specs.Float.Ieee.{lt, le}
use Rattle.numbers.specs.Reals.{f0, millionth, two_million, two_millionths}
use Rattle.plane.specs.Ranges.{is_coordinate, is_radius}
use Rattle.spans.specs.Mesh.{eps_of}
use Rattle.rules.specs.Every.{is_from}
use Rattle.rules.specs.Limits.{most, most_cells}
use Rattle.grid.specs.declared.Grid.{Grid}
use Rattle.grid.specs.declared.Header.{Header}

-- The header of n triangles: n, the grid over them, floor, eps and r.
unfoldable pub header_of : List Float → ℕ → Grid → Float → Float → Header
header_of mesh n g floor r =
    record {
      n = n;
      origin_x = g.x;
      origin_y = g.y;
      cell = g.size;
      columns = g.columns;
      rows = g.rows;
      floor = floor;
      eps = eps_of mesh n;
      r = r;
    }

-- The grid that a header records.
abbrev pub grid_in : Header → Grid
grid_in h = record { x = h.origin_x; y = h.origin_y; size = h.cell; columns = h.columns; rows = h.rows }

-- The header's ranges: n 1 to 65,536; origin and floor as coordinates; cell size 1e-6 to 2e6; columns, rows and cells at least 1 and within
-- refusal 5; 0 < eps <= 2e-6; r 0 to 1e6.
unfoldable pub in_ranges : Header → Bool
in_ranges h =
    is_from 1 most h.n
    && (is_coordinate h.origin_x && (is_coordinate h.origin_y && (is_coordinate h.floor
    && ((le millionth h.cell && le h.cell two_million)
    && (is_from 1 most h.columns && (is_from 1 most h.rows && (is_from 1 most_cells (h.rows * h.columns)
    && ((lt f0 h.eps && le h.eps two_millionths)
    && is_radius h.r))))))))
