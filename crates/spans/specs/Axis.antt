-- Document 01, "Mesh, grid and marks": the size of a cell, the cells on an axis, and those that a stretch of it covers.
use Rattle.std.specs.Prelude.{ℕ, ◌+◌, ◌-◌, min, pos, Float}
use Rattle.std.specs.Float.{binary64}
use Rattle.std.specs.Float.Ieee.{of_int}
use Rattle.numbers.specs.Reals.{◌⊖◌, ◌⊘◌, f1, f4, millionth, max_of}
use Rattle.roots.specs.Root.{root_of}
use Rattle.numbers.specs.Rounding.{round_down_of, truncated}
use Rattle.spans.specs.declared.Extent.{Extent}
use Rattle.spans.specs.declared.Stretch.{Stretch}

-- span = max(hi0-lo0, hi1-lo1, r)
unfoldable pub span_of : Extent → Float → Float
span_of e r = max_of (max_of (e.right ⊖ e.left) (e.top ⊖ e.bottom)) r

-- cell = span / max(root(n), 1), then at least r/4, then at least 1e-6
unfoldable pub size_of : ℕ → Float → Float → Float
size_of n span r = max_of (max_of (span ⊘ max_of (root_of (of_int binary64 (pos n))) f1) (r ⊘ f4)) millionth

-- The cell that a coordinate x lies in: (x-lo)/cell, truncated.
unfoldable pub cell_at : Float → Float → Float → ℕ
cell_at lo size x = truncated ((x ⊖ lo) ⊘ size)

-- Cells on an axis: round down((hi-lo)/cell) + 1.
unfoldable pub cells_along : Float → Float → Float → ℕ
cells_along lo hi size = truncated (round_down_of ((hi ⊖ lo) ⊘ size)) + 1

-- The cells from (low-lo)/cell to (high-lo)/cell, the end held to the last of so many.
unfoldable pub stretch_of : Float → Float → ℕ → Float → Float → Stretch
stretch_of lo size count low high = record { first = cell_at lo size low; last = min (cell_at lo size high) (count - 1) }
