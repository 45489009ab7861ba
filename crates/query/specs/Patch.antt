-- Document 01, "Mesh, grid and marks": the cells that a question covers.
use Rattle.std.specs.Prelude.{cond, ℕ, ◌+◌, min, leb, Float}
use Rattle.std.specs.Float.Ieee.{lt}
use Rattle.numbers.specs.Reals.{◌⊕◌, ◌⊖◌, ◌⊘◌, f0, max_of, min_of}
use Rattle.numbers.specs.Rounding.{round_down_of, truncated}
use Rattle.grid.specs.declared.Header.{Header}
use Rattle.query.specs.declared.Span.{Span}
use Rattle.query.specs.declared.Patch.{Patch}

-- none
abbrev pub nowhere : Span
nowhere = record { first = 0; past = 0 }

-- From lo to hi, both rounded down, held to the grid, which has `count` cells on that axis; none if the end is below 0 or the start at or past the count.
-- Truncating is right here: both are whole by then, so that it changes nothing, but for a start below 0, which becomes 0, the first cell.
unfoldable pub held_to : ℕ → Float → Float → Span
held_to count lo hi =
    cond (lt hi f0) nowhere
    (cond (leb count (truncated lo)) nowhere
    (record { first = truncated lo; past = min (truncated hi + 1) count }))

-- On an axis: round down of (min of its ends - reach - origin)/cell to round down of (max + reach - origin)/cell.
unfoldable pub axis_span : Float → Float → Float → Float → Float → ℕ → Span
axis_span a b reach origin cell count =
    held_to count (round_down_of ((min_of a b ⊖ reach ⊖ origin) ⊘ cell)) (round_down_of ((max_of a b ⊕ reach ⊖ origin) ⊘ cell))

-- The cells of a question from p to q: columns x0 up to x1 of rows y0 up to y1. Reach is the radius or the largest r1.
unfoldable pub patch_of : Header → Float → Float → Float → Float → Float → Patch
patch_of h px py qx qy reach =
    let x = axis_span px qx reach h.origin_x h.cell h.columns in
    let y = axis_span py qy reach h.origin_y h.cell h.rows in
    record { x0 = x.first; x1 = x.past; y0 = y.first; y1 = y.past }
