-- The index of a mesh in whole micrometres as one thing, what "the index built from it" means, and what an accepted build leaves.
use Rattle.std.specs.Prelude.{true, List, ◌≡◌, ℕ, ◌+◌, ◌*◌, ◌≤◌, ◌<◌, ℤ, length, get_or}
use Rattle.cells.specs.Cover.{Cover, members_of, stretch}
use Rattle.micro.specs.Micro.{is_coordinate, number_at}
use Rattle.um.specs.declared.Header.{Header}
use Rattle.um.specs.Grid.{extent_of, grid_of, cells_in, cover_of}
use Rattle.um.specs.Build.{grid_in, in_ranges, build_of, accepted_with, outcome}

-- What a question is handed to look things up in: a mesh, the header, and the two tables.
pub record Index : Type 0 where
  pub mesh : List ℤ
  pub header : Header
  pub starts : List ℕ
  pub members : List ℕ

abbrev pub index_of : List ℤ → Header → List ℕ → List ℕ → Index
index_of mesh h starts members = record { mesh = mesh; header = h; starts = starts; members = members }

-- Which triangle of its mesh covers which cell of its grid.
abbrev pub covers_of : Index → Cover
covers_of ix i c = cover_of ix.mesh (grid_in ix.header) i c

-- The index built from a mesh: header and tables are what the builder answers and leaves for this mesh, with some floor and r, over tables that held anything.
pub record BuiltFrom (ix : Index) : Type 0 where
  pub floor : ℕ
  pub r : ℕ
  pub old_starts : List ℕ
  pub old_members : List ℕ
  pub built : build_of ix.mesh floor r old_starts old_members ≡ outcome (accepted_with ix.header) ix.starts ix.members

-- Header and tables fit the mesh.
pub record SoundIndex (ix : Index) : Type 0 where
  -- its n is the mesh's
  pub nine : length ix.mesh ≡ ix.header.n * 9
  -- the header is in its ranges
  pub ranges : in_ranges ix.header ≡ true
  -- every number of the mesh is a coordinate
  pub numbers : (k : ℕ) → k < length ix.mesh → is_coordinate (number_at ix.mesh k) ≡ true
  -- a start for each cell and one for the end
  pub room : cells_in (grid_in ix.header) + 1 ≤ length ix.starts
  -- a stretch's start is not above its end, and its end not beyond the members
  pub rise : (c : ℕ) → c < cells_in (grid_in ix.header) → get_or ix.starts c 0 ≤ get_or ix.starts (c + 1) 0
  pub within : (c : ℕ) → c < cells_in (grid_in ix.header) → get_or ix.starts (c + 1) 0 ≤ length ix.members
  -- in the stretch of cell c stand the triangles that cover c, in mesh order
  pub cell : (c : ℕ) → c < cells_in (grid_in ix.header) → stretch ix.starts ix.members c ≡ members_of (covers_of ix) ix.header.n c
  -- the grid lies over the whole mesh
  pub grid : grid_in ix.header ≡ grid_of (extent_of ix.mesh ix.header.n) ix.header.cell

-- What the builder promises of what it leaves, with the refusal k: accepted, it is the index built from its mesh, and sound.
pub record BuildPromise (ix : Index) (k : ℕ) : Type 0 where
  pub built : k ≡ 0 → BuiltFrom ix
  pub sound : k ≡ 0 → SoundIndex ix
