-- Document 01, refusal 7, the header: out of its ranges, its n not the mesh's, starts shorter than cells + 1.
use Rattle.std.specs.Prelude.{Bool, ◌&&◌, List, ℕ, ◌+◌, ◌*◌, eqb, leb, Float, length}
use Rattle.std.specs.Float.Ieee.{lt, le}
use Rattle.numbers.specs.Reals.{f0, millionth, two_million, two_millionths}
use Rattle.rules.specs.Every.{is_from}
use Rattle.rules.specs.Limits.{most, most_cells}
use Rattle.plane.specs.Ranges.{is_radius}
use Rattle.grid.specs.declared.Header.{Header}
use Rattle.grid.specs.Header.{in_ranges}

-- The header is in its ranges, its n is the mesh's, and starts has cells + 1 entries.
unfoldable pub head_usable : List Float → Header → List ℕ → Bool
head_usable mesh h starts =
    in_ranges h && (eqb (length mesh) (h.n * 9) && leb (h.rows * h.columns + 1) (length starts))

-- The last of the ranges: cell size, columns, rows, cells, eps and r. (What two parts of the code promise each other.)
unfoldable pub sizes_in_ranges : Float → ℕ → ℕ → Float → Float → Bool
sizes_in_ranges cell columns rows eps r =
    (le millionth cell && le cell two_million)
    && (is_from 1 most columns && (is_from 1 most rows && (is_from 1 most_cells (rows * columns)
    && ((lt f0 eps && le eps two_millionths)
    && is_radius r))))
