-- Document 01, refusal 7: what a header and its tables must be, so that a question can be answered from them. Nothing is written by these tests.
use Rattle.std.specs.Prelude.{Bool, ◌&&◌, List, ℕ, ◌+◌, ◌-◌, ◌*◌, ltb, leb, Float, length, get_or}
use Rattle.rules.specs.Every.{every, each}
use Rattle.numbers.specs.Reals.{num}
use Rattle.plane.specs.Ranges.{is_coordinate}
use Rattle.walk.specs.Walk.{cell}
use Rattle.plane.specs.declared.Bounds.{Bounds}
use Rattle.grid.specs.Boxes.{box_at}
use Rattle.grid.specs.Index.{Index}
use Rattle.header.specs.Head.{head_usable}
use Rattle.query.specs.declared.Patch.{Patch}

-- No coordinate of triangle i is one that 4 would refuse.
unfoldable pub corners_usable : List Float → ℕ → Bool
corners_usable mesh i = every (λ k. is_coordinate (num mesh k)) (9 * i) 9

-- No number of a box is.
unfoldable pub are_coordinates : Float → Float → Float → Float → Bool
are_coordinates a b c d = is_coordinate a && (is_coordinate b && (is_coordinate c && is_coordinate d))

unfoldable pub box_usable : Bounds → Bool
box_usable b = are_coordinates b.low_x b.low_y b.high_x b.high_y && is_coordinate b.top

-- Triangle i with its box, as the box table has it.
unfoldable pub triangle_usable : List Float → List Float → ℕ → Bool
triangle_usable mesh boxes i = corners_usable mesh i && box_usable (box_at boxes i)

-- A member of a question's cells is below n, its numbers pass, and its mark is not above the handed stamp.
unfoldable pub member_usable : List Float → List Float → ℕ → List ℕ → ℕ → ℕ → Bool
member_usable mesh boxes n marks stamp i = ltb i n && (triangle_usable mesh boxes i && leb (get_or marks i 0) stamp)

-- The stretch of cell c: its start is not above its end, its end not beyond members, and the test holds of each member.
unfoldable pub cell_usable : (ℕ → Bool) → List ℕ → List ℕ → ℕ → Bool
cell_usable test starts members c =
    leb (get_or starts c 0) (get_or starts (c + 1) 0)
    && (leb (get_or starts (c + 1) 0) (length members) && each test (cell starts members c))

-- Every cell of columns x0 up to x1 of row y; every one of a question's cells.
unfoldable pub row_usable : (ℕ → Bool) → List ℕ → List ℕ → ℕ → ℕ → ℕ → ℕ → Bool
row_usable test starts members columns x0 x1 y = every (λ x. cell_usable test starts members (y * columns + x)) x0 (x1 - x0)

unfoldable pub cells_usable : (ℕ → Bool) → List ℕ → List ℕ → ℕ → Patch → Bool
cells_usable test starts members columns p = every (row_usable test starts members columns p.x0 p.x1) p.y0 (p.y1 - p.y0)

-- What refusal 7 tests of a question with the cells p.
unfoldable pub usable : Index → List ℕ → ℕ → Patch → Bool
usable ix marks stamp p =
    head_usable ix.mesh ix.header ix.starts
    && cells_usable (member_usable ix.mesh ix.boxes ix.header.n marks stamp) ix.starts ix.members ix.header.columns p

-- What it tests of the plan: every cell and every triangle, and no mark.
unfoldable pub usable_whole : Index → Bool
usable_whole ix =
    head_usable ix.mesh ix.header ix.starts
    && (every (triangle_usable ix.mesh ix.boxes) 0 ix.header.n
    && every (cell_usable (λ i. ltb i ix.header.n) ix.starts ix.members) 0 (ix.header.rows * ix.header.columns))
