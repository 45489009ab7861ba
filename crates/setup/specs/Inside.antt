-- What the parts of the question's code promise each other.
use Rattle.std.specs.Prelude.{Bool, ◌&&◌, List, ℕ, ◌*◌, ◌≤◌, ◌<◌, ◌^◌}
use Rattle.rules.specs.Every.{is_from}
use Rattle.rules.specs.Limits.{most, most_cells}
use Rattle.micro.specs.Micro.{is_coordinate, is_radius}
use Rattle.walk.specs.Walk.{Walk}
use Rattle.setup.specs.declared.Best.{Best}
use Rattle.setup.specs.declared.Reach.{Reach}
use Rattle.setup.specs.declared.Seen.{Seen}

-- a walk with these marks, where it stands
abbrev pub seen : List ℕ → Seen → Walk Best
seen m s = record { marks = m; count = s.count; value = record { height = s.height; met = s.met } }

-- no more boxes met than triangles looked at, and a height that is an i32 counted
pub record Sane (s : Seen) : Type 0 where
  pub met : s.met ≤ s.count
  pub height : s.height < 2 ^ 32

-- a question whose numbers are i32 counted
pub record Small (w : Reach) : Type 0 where
  pub left : w.left < 2 ^ 32
  pub right : w.right < 2 ^ 32
  pub bottom : w.bottom < 2 ^ 32
  pub top : w.top < 2 ^ 32
  pub by : w.by < 2 ^ 32

-- the header's ranges in the code's parts
unfoldable pub places_in : ℕ → ℕ → ℕ → ℕ → Bool
places_in x y floor r = is_coordinate x && (is_coordinate y && (is_coordinate floor && is_radius r))

unfoldable pub counts_in : ℕ → ℕ → Bool
counts_in columns rows = is_from 1 most columns && (is_from 1 most rows && is_from 1 most_cells (rows * columns))
