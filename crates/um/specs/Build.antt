-- Document 02, request 11: refusals 1, 3, 2, 4, 5 and 6 in this order, and what the builder answers and leaves in both tables. Floor and r are counted.
use Rattle.std.specs.Prelude.{Bool, not, cond, ◌&&◌, List, ℕ, ◌*◌, ◌/◌, ◌%◌, ◌^◌, ltb, eqb, ℤ, length, Option, None, Some, Result, Ok, Err}
use Rattle.fields.specs.Rows.{somewhere}
use Rattle.rules.specs.Every.{is_from}
use Rattle.cells.specs.Cover.{start_of, starts_of, members_table}
use Rattle.rules.specs.Ladder.{refuse, demand}
use Rattle.rules.specs.Limits.{most, most_cells}
use Rattle.grid.specs.Build.{refusal_of_members}
use Rattle.micro.specs.Micro.{is_coordinate, is_radius, number_at, first_where}
use Rattle.um.specs.declared.Grid.{Grid}
use Rattle.um.specs.declared.Header.{Header}
use Rattle.refusals.specs.declared.Refusal.{Refusal}
use Rattle.refusals.specs.Numbers.{number_of, told_of}
use Rattle.um.specs.Grid.{triangles_in, extent_of, grid_of, size_of, cells_in, cover_of}

-- ---- the header

-- The header of n triangles: n, the grid over them, floor and r.
unfoldable pub header_of : ℕ → Grid → ℕ → ℕ → Header
header_of n g floor r =
    record { n = n; x = g.x; y = g.y; floor = floor; r = r; columns = g.columns; rows = g.rows; cell = g.cell }

-- The grid that a header records.
abbrev pub grid_in : Header → Grid
grid_in h = record { x = h.x; y = h.y; cell = h.cell; columns = h.columns; rows = h.rows }

-- A power of two from 1 to 2 ^ 31.
unfoldable pub is_power : ℕ → Bool
is_power cell = somewhere (first_where (λ k. eqb (2 ^ k) cell) 0 32)

-- 7, the ranges: n 1 to 65,536; origin and floor as coordinates; r as the radius;
-- columns, rows and cells at least 1 and within refusal 5; the cell a power of two.
unfoldable pub in_ranges : Header → Bool
in_ranges h =
    is_from 1 most h.n
    && (is_coordinate h.x && (is_coordinate h.y && (is_coordinate h.floor
    && (is_radius h.r
    && (is_from 1 most h.columns && (is_from 1 most h.rows && (is_from 1 most_cells (h.rows * h.columns)
    && is_power h.cell)))))))

-- ---- the refusals

-- The first number of the mesh, in its order, that is no coordinate.
unfoldable pub first_bad : List ℤ → Option ℕ
first_bad mesh = first_where (λ k. not (is_coordinate (number_at mesh k))) 0 (length mesh)

-- The number of a place, 0 where there is none.
unfoldable pub place_of : Option ℕ → ℕ
place_of None = 0
place_of (Some k) = k

-- Which number of the mesh is told with refusal k: with 4 the first that is no coordinate; any other outcome tells 0.
unfoldable pub told_with : ℕ → List ℤ → ℕ
told_with k mesh = cond (eqb k 4) (place_of (first_bad mesh)) 0

-- 2: floor or r outside its range. 4: a coordinate of magnitude over 1,000,000,000.
unfoldable pub refusal_of_numbers : List ℤ → ℕ → ℕ → ℕ
refusal_of_numbers mesh floor r =
    demand (is_coordinate floor) 2
    (demand (is_radius r) 2
    (refuse (somewhere (first_bad mesh)) 4
    0))

-- 1: mesh not a multiple of 9 or over 65,536 triangles. 3: mesh empty.
unfoldable pub refusal_of_mesh : List ℤ → ℕ → ℕ → ℕ
refusal_of_mesh mesh floor r =
    demand (eqb (length mesh % 9) 0) 1
    (refuse (ltb most (triangles_in mesh)) 1
    (refuse (eqb (triangles_in mesh) 0) 3
    (refusal_of_numbers mesh floor r)))

-- 5: no cell size fits.
unfoldable pub refusal_of_size : ℕ → ℕ
refusal_of_size cell = refuse (eqb cell 0) 5 0

-- ---- the builder

-- Its answer as document 01 numbers it: refusal 0 and the header, or a refusal and a header all zero. Refusal 4 tells the triangle and which of its nine
-- numbers came first; all else tells 0 and 0.
pub record Built : Type 0 where
  pub refusal : ℕ
  pub triangle : ℕ
  pub number : ℕ
  pub header : Header

-- What it leaves: its answer and both tables.
pub record Outcome : Type 0 where
  pub built : Built
  pub starts : List ℕ
  pub members : List ℕ

abbrev pub outcome : Built → List ℕ → List ℕ → Outcome
outcome b s m = record { built = b; starts = s; members = m }

-- 0, counted.
abbrev pub nought : ℕ
nought = 2147483648

-- The answer of a refused build: its number, a header all zero, and of the number p that is told the triangle and which of its nine it is.
unfoldable pub refused_by : ℕ → ℕ → Built
refused_by k p =
    record {
      refusal = k;
      triangle = p / 9;
      number = p % 9;
      header = record { n = 0; x = nought; y = nought; floor = nought; r = nought; columns = 0; rows = 0; cell = 0 };
    }

-- The answer of an accepted build.
unfoldable pub accepted_with : Header → Built
accepted_with h = record { refusal = 0; triangle = 0; number = 0; header = h }

-- How the answer is told: the header, or the refusal's number and the number of the mesh that it tells.
unfoldable pub told : Result Header Refusal → Built
told (Ok h) = accepted_with h
told (Err e) = refused_by (number_of e) (told_of e)

-- Refused by k, telling number p, with both tables untouched; where k is 0, what comes next.
unfoldable pub unless : ℕ → ℕ → List ℕ → List ℕ → Outcome → Outcome
unless k p s m next = cond (eqb k 0) next (outcome (refused_by k p) s m)

-- Refusal 6, or the header and both tables.
unfoldable pub filled_of : List ℤ → ℕ → Grid → ℕ → ℕ → List ℕ → List ℕ → Outcome
filled_of mesh n g floor r s m =
    let on = cover_of mesh g in
    unless (refusal_of_members (start_of on n (cells_in g)) (length m)) 0 s m
    (outcome (accepted_with (header_of n g floor r)) (starts_of on n (cells_in g) s) (members_table on n (cells_in g) m))

-- Refusal 5, then as above.
unfoldable pub gridded : List ℤ → ℕ → ℕ → ℕ → List ℕ → List ℕ → Outcome
gridded mesh n floor r s m =
    let e = extent_of mesh n in
    let cell = size_of e (length s) in
    unless (refusal_of_size cell) 0 s m (filled_of mesh n (grid_of e cell) floor r s m)

-- The builder: refusals 1, 3, 2 and 4, then as above.
unfoldable pub build_of : List ℤ → ℕ → ℕ → List ℕ → List ℕ → Outcome
build_of mesh floor r s m =
    let k = refusal_of_mesh mesh floor r in
    unless k (told_with k mesh) s m (gridded mesh (triangles_in mesh) floor r s m)
