-- What the parts of the check promise each other.
use Rattle.std.specs.Prelude.{Bool, true, cond, ◌&&◌, List, [], ◌∷◌, ◌≡◌, ℕ, ◌+◌, ◌*◌, ◌≤◌, ◌<◌, leb, ltb, eqb, Float, length, get_or}
use Rattle.rules.specs.Limits.{most}
use Rattle.plane.specs.declared.Bounds.{Bounds}
use Rattle.spans.specs.Axis.{stretch_of}
use Rattle.cells.specs.Cover.{Cover, covers, start_of, starts_of, members_table, stretch}
use Rattle.cells.specs.declared.Cells.{Cells}
use Rattle.grid.specs.declared.Grid.{Grid}
use Rattle.grid.specs.Grid.{cells_in, cover_of}
use Rattle.grid.specs.Boxes.{box_at, boxes_of}
use Rattle.grid.specs.Header.{header_of}
use Rattle.grid.specs.Build.{refusal_of_grid, refusal_of_members}
use Rattle.grid.specs.Index.{Index}
use Rattle.grid.specs.Inside.{NearBox}

-- A test says whether something is so.
abbrev pub Tells : Bool → Type 0 → Type 0
Tells b P = (b ≡ true → P) × (P → b ≡ true)

-- How a refusal of the builder is told.
unfoldable pub told_as : ℕ → ℕ
told_as k = cond (eqb k 1) 1 (cond (eqb k 23) 23 7)

-- The cells of a box under a grid.
unfoldable pub cells_under : Grid → Bounds → Cells
cells_under g b =
    let x = stretch_of g.x g.size g.columns b.low_x b.high_x in
    let y = stretch_of g.y g.size g.rows b.low_y b.high_y in
    record { left = x.first; right = x.last; bottom = y.first; top = y.last }

-- Which triangle covers which cell, by the box table.
abbrev pub box_covers : List Float → Grid → Cover
box_covers boxes g i c = covers g.columns (cells_under g (box_at boxes i)) c

-- A grid of at least one cell and not too many, and boxes of n triangles that lie near it.
pub record Boxed (n : ℕ) (g : Grid) (boxes : List Float) : Type 0 where
  pub some : (0 < g.columns) × (0 < g.rows)
  pub few : g.rows * g.columns ≤ most * most
  pub small : n ≤ most
  pub five : length boxes ≡ n * 5
  pub near : (i : ℕ) → i < n → NearBox g (box_at boxes i)

-- Numbers that rise from low on, are below n and belong to a set.
unfoldable pub rises_from : (ℕ → Bool) → ℕ → ℕ → List ℕ → Bool
rises_from on n low [] = true
rises_from on n low (i ∷ xs) = leb low i && (ltb i n && (on i && rises_from on n (i + 1) xs))

-- Cell c has a stretch of the members, and in it stand triangles that cover it, in mesh order.
unfoldable pub cell_holds : Cover → ℕ → List ℕ → List ℕ → ℕ → Bool
cell_holds on n s m c =
    leb (get_or s c 0) (get_or s (c + 1) 0) && (leb (get_or s (c + 1) 0) (length m) && rises_from (λ i. on i c) n 0 (stretch s m c))

-- Both tables are the builder's, and refusal 6 lets them pass.
pub record SameTables (on : Cover) (n cells : ℕ) (s m : List ℕ) : Type 0 where
  pub few : refusal_of_members (start_of on n cells) (length m) ≡ 0
  pub starts : s ≡ starts_of on n cells s
  pub members : m ≡ members_table on n cells m

-- Header and tables are what the builder leaves of n triangles under a grid.
pub record SameIndex (n : ℕ) (g : Grid) (ix : Index) : Type 0 where
  pub fits : refusal_of_grid g.columns g.rows (length ix.starts) ≡ 0
  pub header : ix.header ≡ header_of ix.mesh n g ix.header.floor ix.header.r
  pub boxes : ix.boxes ≡ boxes_of ix.mesh n
  pub tables : SameTables (cover_of ix.mesh g) n (cells_in g) ix.starts ix.members
