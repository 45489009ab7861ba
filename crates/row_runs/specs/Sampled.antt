-- Document 02, request 10: the sampled stretches of the search, each as the run from its first sample to its last, in the order walked, and their pieces.
use Rattle.std.specs.Prelude.{Bool, cond, List, [], ◌∷◌, ◌++◌, ℕ, zero, suc, ◌+◌, Float}
use Rattle.std.specs.Float.Ieee.{le}
use Rattle.numbers.specs.Reals.{◌⊕◌, ◌⊘◌, f16}
use Rattle.levels.specs.declared.Level.{Level}
use Rattle.runs.specs.declared.Run.{Run}
use Rattle.runs.specs.Pieces.{Piece, pieces_of}
use Rattle.rows.specs.declared.Axis.{Axis}
use Rattle.rows.specs.declared.Lane.{Lane}
use Rattle.rows.specs.Lanes.{spread_of, intervals_of, step_of, between}
use Rattle.rows.specs.Stretches.{Ends, stretches_of}
use Rattle.probe.specs.declared.Aim.{Aim}
use Rattle.probe.specs.Probe.{on_level}
use Rattle.parameters.specs.declared.Parameters.{Parameters}
use Rattle.row_runs.specs.Search.{empty, directed, aim_of, lane_of}

-- A row's stretches.
unfoldable pub stretches_along : Lane → List Ends → List Run
stretches_along l [] = []
stretches_along l (e ∷ es) = between l e.from e.to ∷ stretches_along l es

-- How many rows have a stretch, and all stretches.
pub record Sampled : Type 0 where
  pub rows : ℕ
  pub stretches : List Run

module _ (under : Run → Float) where
  -- One row more.
  unfoldable pub row_sampled : Aim → Sampled → Lane → Sampled
  row_sampled a s l =
      let es = stretches_of (on_level under a l) l.samples in
      cond (empty es) s (record { rows = s.rows + 1; stretches = s.stretches ++ stretches_along l (directed (s.rows + 1) es) })

  -- Rows row, row + 1, .. n of them.
  unfoldable pub rows_sampled : Aim → (ℕ → Lane) → Sampled → ℕ → ℕ → Sampled
  rows_sampled a lane s row zero = s
  rows_sampled a lane s row (suc n) = rows_sampled a lane (row_sampled a s (lane row)) (row + 1) n

module _ (under : Run → Float) (p : Parameters) (axis : Axis) (r : Float) where
  -- One level more.
  unfoldable pub level_sampled : Sampled → Level → Sampled
  level_sampled s l = rows_sampled under (aim_of p r l) (lane_of p axis r l) s 0 (intervals_of (spread_of axis r l) p.stepover + 1)

  -- Level after level.
  unfoldable pub levels_sampled : Sampled → List Level → Sampled
  levels_sampled s [] = s
  levels_sampled s (l ∷ ls) = levels_sampled (level_sampled s l) ls

module _ (under : Run → Float) (p : Parameters) (r : Float) where
  -- Whether a run is clear at the plan's tolerance.
  unfoldable pub clear_at : Run → Bool
  clear_at s = le (under s) (s.z ⊕ p.tolerance)

  -- The pieces of one stretch.
  unfoldable pub halves_of : Run → List Piece
  halves_of s = pieces_of clear_at (step_of p.stepover r ⊘ f16) 32 s

  -- The pieces of all stretches, one stretch after the other.
  unfoldable pub halves_of_all : List Run → List Piece
  halves_of_all [] = []
  halves_of_all (s ∷ ss) = halves_of s ++ halves_of_all ss
