-- What the builder's parts promise each other.
use Rattle.std.specs.Prelude.{List, ℕ, ◌*◌, ◌≤◌, ◌<◌, length, Float}
use Rattle.rules.specs.Limits.{most}
use Rattle.plane.specs.declared.Bounds.{Bounds}
use Rattle.spans.specs.Mesh.{box_of}
use Rattle.spans.specs.Inside.{AllGood, Near}
use Rattle.grid.specs.declared.Grid.{Grid}

-- A box whose ends lie in the first 65,536 cells of each axis.
pub record NearBox (g : Grid) (b : Bounds) : Type 0 where
  pub left : Near g.x g.size b.low_x
  pub right : Near g.x g.size b.high_x
  pub bottom : Near g.y g.size b.low_y
  pub top : Near g.y g.size b.high_y

-- n triangles of coordinates, and a grid of at least one cell and not too many.
pub record Gridded (mesh : List Float) (n : ℕ) (g : Grid) : Type 0 where
  pub nine : n * 9 ≤ length mesh
  pub few : n ≤ most
  pub some : (0 < g.columns) × (0 < g.rows)
  pub wide : g.columns ≤ most
  pub tall : g.rows ≤ most
  pub numbers : AllGood mesh
  pub near : (i : ℕ) → i < n → NearBox g (box_of mesh i)
