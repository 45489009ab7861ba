-- What a build of a mesh needs: how many starts and how many members have to be lent to it. Asked before the build, it refuses what no lent table could help.
use Rattle.std.specs.Prelude.{true, cond, List, ◌≡◌, ℕ, ◌+◌, ◌%◌, ◌≤◌, ◌<◌, ltb, eqb, Float, length, Result, Ok, Err}
use Rattle.cells.specs.Cover.{start_of}
use Rattle.grid.specs.declared.Grid.{Grid}
use Rattle.rules.specs.Ladder.{refuse, demand}
use Rattle.rules.specs.Limits.{most}
use Rattle.grid.specs.Grid.{triangles_in, grid_of, cells_in, cover_of}
use Rattle.grid.specs.Boxes.{is_boxed}
use Rattle.grid.specs.Build.{refusal_of_numbers, refusal_of_grid, refusal_of_members, build_of}
use Rattle.refusals.specs.declared.Refusal.{Refusal}
use Rattle.refusals.specs.Numbers.{number_of}
use Rattle.rooms.specs.declared.Rooms.{Rooms as Counts}

-- 1: mesh not a multiple of 9 or over 65,536 triangles. 3: mesh empty.
-- Then 2 and 4, as the builder has them; 23 is not asked, since no box table is handed over.
unfoldable pub refusal_of : List Float → Float → Float → ℕ
refusal_of mesh floor r =
    demand (eqb (length mesh % 9) 0) 1
    (refuse (ltb most (triangles_in mesh)) 1
    (refuse (eqb (triangles_in mesh) 0) 3
    (refusal_of_numbers mesh floor r)))

-- Refusal 0 and how many starts and members, or a refusal and zeros.
pub record Rooms : Type 0 where
  pub refusal : ℕ
  pub starts : ℕ
  pub members : ℕ

-- The answer of a refused call.
unfoldable pub no_rooms : ℕ → Rooms
no_rooms k = record { refusal = k; starts = 0; members = 0 }

-- How the answer is told.
unfoldable pub told : Result Counts Refusal → Rooms
told (Ok q) = record { refusal = 0; starts = q.starts; members = q.members }
told (Err e) = no_rooms (number_of e)

-- Refused by k; where k is 0, what comes next.
unfoldable pub unless_refused : ℕ → Rooms → Rooms
unless_refused k next = cond (eqb k 0) next (no_rooms k)

-- The rooms of n triangles under a grid: cells + 1 starts, and as many members as the cells have together. The fixed limits of 5 (columns or rows over 65,536,
-- cells over 1,048,576) and 6 (members over 16,777,216) are the builder's own, asked as if the largest tables that these limits allow were lent.
unfoldable pub rooms_in : List Float → ℕ → Grid → Rooms
rooms_in mesh n g =
    let members = start_of (cover_of mesh g) n (cells_in g) in
    unless_refused (refusal_of_grid g.columns g.rows 1048577)
    (unless_refused (refusal_of_members members 16777216)
    (record { refusal = 0; starts = cells_in g + 1; members = members }))

-- The rooms that a build of a mesh needs.
unfoldable pub rooms_of : List Float → Float → Float → Rooms
rooms_of mesh floor r = let n = triangles_in mesh in unless_refused (refusal_of mesh floor r) (rooms_in mesh n (grid_of mesh n r))

-- What the answer q promises of every build of this mesh with this floor and r, over a box table x of five numbers a triangle.
pub record RoomsPromise (mesh : List Float) (floor r : Float) (q : Rooms) : Type 0 where
  -- with these rooms, or more, it is accepted
  pub enough : q.refusal ≡ 0 → (s m : List ℕ) (x : List Float) → is_boxed mesh x ≡ true → q.starts ≤ length s → q.members ≤ length m
      → (build_of mesh floor r s m x).built.refusal ≡ 0
  -- with fewer starts it is refused by 5
  pub fewer_starts : q.refusal ≡ 0 → (s m : List ℕ) (x : List Float) → is_boxed mesh x ≡ true → length s < q.starts
      → (build_of mesh floor r s m x).built.refusal ≡ 5
  -- with enough starts and fewer members it is refused by 6
  pub fewer_members : q.refusal ≡ 0 → (s m : List ℕ) (x : List Float) → is_boxed mesh x ≡ true → q.starts ≤ length s → length m < q.members
      → (build_of mesh floor r s m x).built.refusal ≡ 6
  -- and where the answer is a refusal, no tables help
  pub never : (q.refusal ≡ 0 → ⊥) → (s m : List ℕ) (x : List Float) → (build_of mesh floor r s m x).built.refusal ≡ 0 → ⊥
