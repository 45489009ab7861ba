-- What the parts of the run search promise each other.
use Rattle.std.specs.Prelude.{Bool, true, false, cond, not, ◌||◌, List, map, ◌≡◌, ℕ, ◌+◌, ◌-◌, ◌≤◌, Float}
use Rattle.levels.specs.declared.Level.{Level}
use Rattle.runs.specs.declared.Run.{Run}
use Rattle.runs.specs.Inside.{work, taken_all}
use Rattle.halving.specs.declared.Stand.{Stand}
use Rattle.rows.specs.declared.Axis.{Axis}
use Rattle.rows.specs.declared.Lane.{Lane}
use Rattle.rows.specs.Lanes.{spread_of, intervals_of, step_of, samples_of}
use Rattle.rows.specs.Stretches.{Ends, ends, ended_at}
use Rattle.probe.specs.declared.Aim.{Aim}
use Rattle.probe.specs.Probe.{on_level}
use Rattle.parameters.specs.declared.Parameters.{Parameters}
use Rattle.row_runs.specs.declared.Walked.{Walked}
use Rattle.row_runs.specs.Search.{pieces_along, empty}

-- ---- a row, over any height under a run

-- Sample j of a row that is walked forward or back.
unfoldable pub number_of : Bool → ℕ → ℕ → ℕ
number_of forward samples j = cond forward j (samples - j)

abbrev pub numbered : Bool → ℕ → Ends → Ends
numbered forward samples e = ends (number_of forward samples e.from) (number_of forward samples e.to)

-- The stretch in front of sample j has ended: it is taken, if it is one.
pub record Ended (under : Run → Float) (a : Aim) (l : Lane) (forward : Bool) (j : ℕ) (w : Walked) (t : List Float)
    (w' : Walked) (t' : List Float) : Type 0 where
  pub number : w'.k ≡ 0
  pub some : w'.some ≡ (w.some || not (empty (ended_at w.k j)))
  pub taken : work t' w'.stand.tally ≡ taken_all (work t w.stand.tally) (pieces_along under a l (map (numbered forward l.samples) (ended_at w.k j)))

-- One sample more: on the level the stretch is one longer, off it it has ended.
pub record Advanced (under : Run → Float) (a : Aim) (l : Lane) (forward : Bool) (j : ℕ) (w : Walked) (t : List Float)
    (w' : Walked) (t' : List Float) : Type 0 where
  pub on : on_level under a l (number_of forward l.samples j) ≡ true
      → (w'.k ≡ w.k + 1) × (w'.some ≡ w.some) × (work t' w'.stand.tally ≡ work t w.stand.tally)
  pub off : on_level under a l (number_of forward l.samples j) ≡ false → Ended under a l forward j w t w' t'

-- A row walked: the pieces of its stretches are taken, and it is known whether there was one.
pub record Trodden (under : Run → Float) (a : Aim) (l : Lane) (es : List Ends) (t : List Float) (s : Stand) (t' : List Float) (w : Walked) : Type 0 where
  pub some : w.some ≡ not (empty es)
  pub taken : work t' w.stand.tally ≡ taken_all (work t s.tally) (pieces_along under a l es)

-- A level has at most 65,535 intervals and samples.
unfoldable pub Coarse : Parameters → Axis → Float → Level → Type 0
Coarse p axis r l = (intervals_of (spread_of axis r l) p.stepover ≤ 65535) × (samples_of (spread_of axis r l) (step_of p.stepover r) ≤ 65535)
