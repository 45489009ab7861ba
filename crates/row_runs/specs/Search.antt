-- Document 01, "Levels and runs": the search for runs. Rows, samples, row reversal, halving, dropped length and joining are as in source document 000.
use Rattle.std.specs.Prelude.{Bool, true, false, cond, List, [], ◌∷◌, ◌++◌, ℕ, zero, suc, ◌+◌, ◌%◌, eqb, Float}
use Rattle.numbers.specs.Reals.{◌⊕◌, ◌⊘◌, f16}
use Rattle.levels.specs.declared.Level.{Level}
use Rattle.runs.specs.declared.Run.{Run}
use Rattle.runs.specs.Pieces.{Piece, pieces_of}
use Rattle.rows.specs.declared.Axis.{Axis}
use Rattle.rows.specs.declared.Lane.{Lane}
use Rattle.rows.specs.Lanes.{spread_of, intervals_of, step_of, samples_of, cross_of, between}
use Rattle.rows.specs.Stretches.{Ends, stretches_of, backward}
use Rattle.probe.specs.declared.Aim.{Aim}
use Rattle.probe.specs.Probe.{on_level, clear}
use Rattle.parameters.specs.declared.Parameters.{Parameters}

-- ---- the pieces of a row, over any height under a run
module _ (under : Run → Float) where
  -- The pieces of a row's stretches: each run is halved at most 32 times.
  unfoldable pub pieces_along : Aim → Lane → List Ends → List Piece
  pieces_along a l [] = []
  pieces_along a l (e ∷ es) = pieces_of (clear under a) a.least 32 (between l e.from e.to) ++ pieces_along a l es

-- Whether a list has nothing in it.
unfoldable pub empty : List Ends → Bool
empty [] = true
empty (e ∷ es) = false

-- Every second counted row is walked the other way.
unfoldable pub directed : ℕ → List Ends → List Ends
directed row es = cond (eqb (row % 2) 0) (backward es) es

-- What the search has found: how many rows have a stretch, and all pieces in the order made.
pub record Found : Type 0 where
  pub rows : ℕ
  pub pieces : List Piece

-- ---- the search
module _ (under : Run → Float) where
  -- One row more: it counts only where there is a stretch.
  unfoldable pub row_found : Aim → Found → Lane → Found
  row_found a f l =
      let es = stretches_of (on_level under a l) l.samples in
      cond (empty es) f (record { rows = f.rows + 1; pieces = f.pieces ++ pieces_along under a l (directed (f.rows + 1) es) })

  -- Rows a, a + 1, .. n of them.
  unfoldable pub rows_found : Aim → (ℕ → Lane) → Found → ℕ → ℕ → Found
  rows_found a lane f row zero = f
  rows_found a lane f row (suc n) = rows_found a lane (row_found a f (lane row)) (row + 1) n

-- What a level's rows are tested against. Halving stops at length <= h / 16.
unfoldable pub aim_of : Parameters → Float → Level → Aim
aim_of p r l =
    record { level = l.z; level_tolerance = p.level_tolerance; tolerance = p.tolerance; least = step_of p.stepover r ⊘ f16 }

-- Row number `row` of a level; its cuts lie at the level plus the stock to leave.
unfoldable pub lane_of : Parameters → Axis → Float → Level → ℕ → Lane
lane_of p axis r l row =
    let s = spread_of axis r l in
    record {
      axis = axis;
      spread = s;
      samples = samples_of s (step_of p.stepover r);
      cross = cross_of s (intervals_of s p.stepover) row;
      z = l.z ⊕ p.stock_to_leave;
    }

module _ (under : Run → Float) (p : Parameters) (axis : Axis) (r : Float) where
  -- One level more: its rows from the first to the last, one more than there are intervals.
  unfoldable pub level_found : Found → Level → Found
  level_found f l = rows_found under (aim_of p r l) (lane_of p axis r l) f 0 (intervals_of (spread_of axis r l) p.stepover + 1)

  -- Level after level.
  unfoldable pub levels_found : Found → List Level → Found
  levels_found f [] = f
  levels_found f (l ∷ ls) = levels_found (level_found f l) ls
