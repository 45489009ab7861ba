-- Document 01, "Refusal numbers": refusals 1, 23, 3, 2, 4, 5 and 6 in this order, and what the builder answers and leaves in its three tables.
use Rattle.std.specs.Prelude.{Bool, true, false, cond, List, ℕ, ◌+◌, ◌*◌, ◌/◌, ◌%◌, ltb, eqb, length, Float, Option, None, Some, Result, Ok, Err}
use Rattle.numbers.specs.Reals.{f0}
use Rattle.plane.specs.Ranges.{is_coordinate, is_radius}
use Rattle.spans.specs.Mesh.{first_bad}
use Rattle.cells.specs.Cover.{start_of, starts_of, members_table}
use Rattle.grid.specs.declared.Grid.{Grid}
use Rattle.grid.specs.declared.Header.{Header}
use Rattle.refusals.specs.declared.Refusal.{Refusal}
use Rattle.refusals.specs.Numbers.{number_of, told_of}
use Rattle.grid.specs.Grid.{triangles_in, grid_of, cells_in, cover_of}
use Rattle.grid.specs.Boxes.{is_boxed, boxes_of}
use Rattle.grid.specs.Header.{header_of}
use Rattle.rules.specs.Ladder.{refuse, demand}
use Rattle.rules.specs.Limits.{most, most_cells}

-- No place was found.
unfoldable pub is_nowhere : Option ℕ → Bool
is_nowhere None = true
is_nowhere (Some k) = false

-- The number of a place, 0 where there is none.
unfoldable pub place_of : Option ℕ → ℕ
place_of None = 0
place_of (Some k) = k

-- Which number of the mesh is told with refusal k: with 4 the first that is no coordinate, in mesh order; any other outcome tells 0.
unfoldable pub told_with : ℕ → List Float → ℕ
told_with k mesh = cond (eqb k 4) (place_of (first_bad mesh)) 0

-- 2: floor or r outside its range. 4: a coordinate not finite or over 1e6.
unfoldable pub refusal_of_numbers : List Float → Float → Float → ℕ
refusal_of_numbers mesh floor r =
    demand (is_coordinate floor) 2
    (demand (is_radius r) 2
    (demand (is_nowhere (first_bad mesh)) 4
    0))

-- 1: mesh not a multiple of 9 or over 65,536 triangles. 23: box table not five numbers a triangle. 3: mesh empty.
unfoldable pub refusal_of_mesh : List Float → Float → Float → List Float → ℕ
refusal_of_mesh mesh floor r x =
    demand (eqb (length mesh % 9) 0) 1
    (refuse (ltb most (triangles_in mesh)) 1
    (demand (is_boxed mesh x) 23
    (refuse (eqb (triangles_in mesh) 0) 3
    (refusal_of_numbers mesh floor r))))

-- 5: columns or rows over 65,536, cells over 1,048,576, or cells + 1 over the lent starts.
unfoldable pub refusal_of_grid : ℕ → ℕ → ℕ → ℕ
refusal_of_grid columns rows lent =
    refuse (ltb most columns) 5
    (refuse (ltb most rows) 5
    (refuse (ltb most_cells (rows * columns)) 5
    (refuse (ltb lent (rows * columns + 1)) 5
    0)))

-- 6: members over 16,777,216 or over the lent room.
unfoldable pub refusal_of_members : ℕ → ℕ → ℕ
refusal_of_members k lent =
    refuse (ltb 16777216 k) 6
    (refuse (ltb lent k) 6
    0)

-- The builder's answer as document 01 numbers it: refusal 0 and the header, or a refusal and a header all zero. Refusal 4 tells the triangle and which of its
-- nine numbers came first; all else tells 0 and 0.
pub record Built : Type 0 where
  pub refusal : ℕ
  pub triangle : ℕ
  pub number : ℕ
  pub header : Header

-- What the builder leaves: its answer and the tables of starts, members and boxes.
pub record Outcome : Type 0 where
  pub built : Built
  pub starts : List ℕ
  pub members : List ℕ
  pub boxes : List Float

-- The four together.
abbrev pub outcome : Built → List ℕ → List ℕ → List Float → Outcome
outcome b s m x = record { built = b; starts = s; members = m; boxes = x }

-- The answer of a refused build: its number, a header all zero, and of the number p that is told the triangle and which of its nine it is.
unfoldable pub refused_by : ℕ → ℕ → Built
refused_by k p =
    record {
      refusal = k;
      triangle = p / 9;
      number = p % 9;
      header = record { n = 0; origin_x = f0; origin_y = f0; cell = f0; columns = 0; rows = 0; floor = f0; eps = f0; r = f0 };
    }

-- The answer of an accepted build.
unfoldable pub accepted_with : Header → Built
accepted_with h = record { refusal = 0; triangle = 0; number = 0; header = h }

-- How the answer is told: the header, or the refusal's number and the number of the mesh that it tells.
unfoldable pub told : Result Header Refusal → Built
told (Ok h) = accepted_with h
told (Err e) = refused_by (number_of e) (told_of e)

-- Refused by k, telling number p, with all tables untouched; where k is 0, what comes next.
unfoldable pub unless : ℕ → ℕ → List ℕ → List ℕ → List Float → Outcome → Outcome
unless k p s m x next = cond (eqb k 0) next (outcome (refused_by k p) s m x)

-- Refusal 6, or the header and the tables.
unfoldable pub filled_of : List Float → ℕ → Grid → Float → Float → List ℕ → List ℕ → List Float → Outcome
filled_of mesh n g floor r s m x =
    let on = cover_of mesh g in
    unless (refusal_of_members (start_of on n (cells_in g)) (length m)) 0 s m x
    (outcome (accepted_with (header_of mesh n g floor r)) (starts_of on n (cells_in g) s) (members_table on n (cells_in g) m) (boxes_of mesh n))

-- Refusal 5, then as above.
unfoldable pub gridded : List Float → ℕ → Grid → Float → Float → List ℕ → List ℕ → List Float → Outcome
gridded mesh n g floor r s m x = unless (refusal_of_grid g.columns g.rows (length s)) 0 s m x (filled_of mesh n g floor r s m x)

-- The builder: refusals 1, 23, 3, 2 and 4, then as above.
unfoldable pub build_of : List Float → Float → Float → List ℕ → List ℕ → List Float → Outcome
build_of mesh floor r s m x =
    let n = triangles_in mesh in
    let k = refusal_of_mesh mesh floor r x in
    unless k (told_with k mesh) s m x (gridded mesh n (grid_of mesh n r) floor r s m x)
