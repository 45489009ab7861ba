-- What the builder's parts promise each other.
use Rattle.std.specs.Prelude.{List, ℕ, ◌*◌, ◌≤◌, ◌<◌, ℤ, length}
use Rattle.rules.specs.Limits.{most}
use Rattle.micro.specs.declared.Box.{Box}
use Rattle.micro.specs.Micro.{box_of}
use Rattle.um.specs.declared.Grid.{Grid}

-- A box that no side of the grid's origin is above.
pub record Above (g : Grid) (b : Box) : Type 0 where
  pub left : g.x ≤ b.low_x
  pub right : g.x ≤ b.high_x
  pub bottom : g.y ≤ b.low_y
  pub top : g.y ≤ b.high_y

-- n triangles, and a grid of at least one cell and not too many, whose origin is not above any of them.
pub record Gridded (mesh : List ℤ) (n : ℕ) (g : Grid) : Type 0 where
  pub nine : n * 9 ≤ length mesh
  pub few : n ≤ most
  pub some : (0 < g.columns) × (0 < g.rows)
  pub wide : g.columns ≤ most
  pub tall : g.rows ≤ most
  pub size : 0 < g.cell
  pub above : (i : ℕ) → i < n → Above g (box_of mesh i)
