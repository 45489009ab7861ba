-- The index of a mesh as one thing, what "the index built from it" means, and what an accepted build leaves, in the words of refusal 7 and demand 3: header and
-- tables that no question refuses, and in each cell the triangles that cover it.
use Rattle.std.specs.Prelude.{true, List, ◌≡◌, ℕ, ◌+◌, ◌*◌, ◌≤◌, ◌<◌, length, get_or, Float}
use Rattle.spans.specs.Mesh.{box_of}
use Rattle.spans.specs.Inside.{AllGood}
use Rattle.cells.specs.Cover.{Cover, members_of, stretch}
use Rattle.rules.specs.Every.{weight, times}
use Rattle.cells.specs.declared.Cells.{Cells}
use Rattle.grid.specs.declared.Grid.{Grid}
use Rattle.grid.specs.declared.Header.{Header}
use Rattle.grid.specs.Grid.{cells_in, cells_of, cover_of}
use Rattle.grid.specs.Boxes.{box_at}
use Rattle.grid.specs.Header.{grid_in, in_ranges}
use Rattle.grid.specs.Build.{build_of, accepted_with, outcome}

-- What a question is handed to look things up in: a mesh, the header, and the tables of starts, members and boxes.
pub record Index : Type 0 where
  pub mesh : List Float
  pub header : Header
  pub starts : List ℕ
  pub members : List ℕ
  pub boxes : List Float

abbrev pub index_of : List Float → Header → List ℕ → List ℕ → List Float → Index
index_of mesh h starts members boxes = record { mesh = mesh; header = h; starts = starts; members = members; boxes = boxes }

-- Which triangle of its mesh covers which cell of its grid.
abbrev pub covers_of : Index → Cover
covers_of ix i c = cover_of ix.mesh (grid_in ix.header) i c

-- "Take a mesh, the index built from it": header and tables are what `build` answers and leaves for this mesh, with some floor and r, over tables that held
-- anything before.
pub record BuiltFrom (ix : Index) : Type 0 where
  pub floor : Float
  pub r : Float
  pub old_starts : List ℕ
  pub old_members : List ℕ
  pub old_boxes : List Float
  pub built : build_of ix.mesh floor r old_starts old_members old_boxes ≡ outcome (accepted_with ix.header) ix.starts ix.members ix.boxes

-- ---- what follows for an index that is built from its mesh

-- At least one cell, and none outside the grid.
pub record InGrid (g : Grid) (b : Cells) : Type 0 where
  pub columns : b.left ≤ b.right
  pub right : b.right < g.columns
  pub rows : b.bottom ≤ b.top
  pub top : b.top < g.rows

-- Header and tables fit the mesh.
pub record SoundIndex (ix : Index) : Type 0 where
  -- its n is the mesh's
  pub nine : length ix.mesh ≡ ix.header.n * 9
  -- the header is in its ranges
  pub ranges : in_ranges ix.header ≡ true
  -- every number of the mesh is a coordinate
  pub numbers : AllGood ix.mesh
  -- a start for each cell and one for the end
  pub room : cells_in (grid_in ix.header) + 1 ≤ length ix.starts
  -- a stretch's start is not above its end, and its end not beyond the members
  pub rise : (c : ℕ) → c < cells_in (grid_in ix.header) → get_or ix.starts c 0 ≤ get_or ix.starts (c + 1) 0
  pub within : (c : ℕ) → c < cells_in (grid_in ix.header) → get_or ix.starts (c + 1) 0 ≤ length ix.members
  -- in the stretch of cell c stand the triangles that cover c, in mesh order
  pub cell : (c : ℕ) → c < cells_in (grid_in ix.header) → stretch ix.starts ix.members c ≡ members_of (covers_of ix) ix.header.n c
  -- each of them once and no other
  pub once : (c i : ℕ) → c < cells_in (grid_in ix.header) → i < ix.header.n → times i (stretch ix.starts ix.members c) ≡ weight (covers_of ix i c)
  -- and each is below n
  pub below : (c j : ℕ) → c < cells_in (grid_in ix.header) → j < length (stretch ix.starts ix.members c)
      → get_or (stretch ix.starts ix.members c) j 0 < ix.header.n
  -- five numbers a triangle in the box table, and they are the triangle's box
  pub five : length ix.boxes ≡ ix.header.n * 5
  pub boxed : (i : ℕ) → i < ix.header.n → box_at ix.boxes i ≡ box_of ix.mesh i
  -- each triangle covers a cell, and none outside the grid
  pub lies : (i : ℕ) → i < ix.header.n → InGrid (grid_in ix.header) (cells_of ix.mesh (grid_in ix.header) i)

-- What `build` promises of what it leaves, with the refusal k: accepted, it is the index built from its mesh, and sound.
pub record BuildPromise (ix : Index) (k : ℕ) : Type 0 where
  pub built : k ≡ 0 → BuiltFrom ix
  pub sound : k ≡ 0 → SoundIndex ix
