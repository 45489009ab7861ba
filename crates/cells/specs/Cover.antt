-- Document 01, "Mesh, grid and marks": the cells that a triangle covers, the members of a cell, and the two tables that hold them.
use Rattle.std.specs.Prelude.{Bool, cond, ◌&&◌, List, [], ◌∷◌, ◌++◌, ℕ, zero, suc, ◌+◌, ◌-◌, ◌*◌, ◌/◌, ◌%◌, length, get_or, take, drop}
use Rattle.rules.specs.Every.{is_from}
use Rattle.cells.specs.declared.Cells.{Cells}

-- Cell c lies in columns left to right of rows bottom to top, both ends included. Its number is y * columns + x.
unfoldable pub covers : ℕ → Cells → ℕ → Bool
covers columns b c = is_from b.left b.right (c % columns) && is_from b.bottom b.top (c / columns)

-- How many cells that is.
unfoldable pub area_of : Cells → ℕ
area_of b = (b.right + 1 - b.left) * (b.top + 1 - b.bottom)

-- Which triangle covers which cell: `on i c` says that triangle i covers cell c.
abbrev pub Cover : Type 0
Cover = ℕ → ℕ → Bool

-- The members of cell c among the first n triangles, in mesh order.
unfoldable pub members_of : Cover → ℕ → ℕ → List ℕ
members_of on zero c = []
members_of on (suc n) c = members_of on n c ++ cond (on n c) (n ∷ []) []

-- The members of the first k cells, one cell after the other.
unfoldable pub listed : Cover → ℕ → ℕ → List ℕ
listed on n zero = []
listed on n (suc k) = listed on n k ++ members_of on n k

-- Where the members of cell c begin.
unfoldable pub start_of : Cover → ℕ → ℕ → ℕ
start_of on n c = length (listed on n c)

-- f 0, f 1 and so on, k of them.
unfoldable pub entries : (ℕ → ℕ) → ℕ → List ℕ
entries f zero = []
entries f (suc k) = entries f k ++ (f k ∷ [])

-- The starts: one for each cell and one for the end. The entries behind stay as they were.
unfoldable pub starts_of : Cover → ℕ → ℕ → List ℕ → List ℕ
starts_of on n cells old = entries (start_of on n) (suc cells) ++ drop (suc cells) old

-- The members of all cells. The entries behind stay as they were.
unfoldable pub members_table : Cover → ℕ → ℕ → List ℕ → List ℕ
members_table on n cells old = listed on n cells ++ drop (start_of on n cells) old

-- What is read of cell c: the stretch of the member table between two starts.
abbrev pub stretch : List ℕ → List ℕ → ℕ → List ℕ
stretch starts members c = take (get_or starts (c + 1) 0 - get_or starts c 0) (drop (get_or starts c 0) members)
