-- Document 02, request 9: where the moves begin. Refusals 1, 26, 27.
use Rattle.std.specs.Prelude.{Bool, true, false, cond, ◌&&◌, List, [], ◌∷◌, ℕ, ◌+◌, ◌*◌, ◌%◌, eqb, leb, Float, length, Result, Ok, Err}
use Rattle.std.specs.Float.Ieee.{le}
use Rattle.numbers.specs.Reals.{f0}
use Rattle.fives.specs.Tables.{room_of}
use Rattle.plane.specs.Ranges.{is_coordinate}
use Rattle.rules.specs.Ladder.{demand}
use Rattle.parameters.specs.Terms.{are_three}
use Rattle.runs.specs.declared.Run.{Run}
use Rattle.join.specs.Join.{runs_in}
use Rattle.moves.specs.declared.Point.{Point}
use Rattle.moves.specs.declared.Heights.{Heights}
use Rattle.moves.specs.declared.State.{State}
use Rattle.refusals.specs.declared.Refusal.{Refusal}
use Rattle.refusals.specs.Numbers.{number_of}
use Rattle.moves.specs.declared.Phase.TheVariants.{Lift}
use Rattle.moves.specs.Phases.{point}

-- The largest u64.
abbrev pub largest : ℕ
largest = 18446744073709551615

-- All runs of a table.
abbrev pub runs_of : List Float → List Run
runs_of t = runs_in t 0 (room_of t)

-- ---- 26

-- feed <= retract <= clearance <= start z, these and the start's x and y finite with magnitude at most 1e6.
unfoldable pub in_order : Heights → Point → Bool
in_order h p = le h.feed h.retract && (le h.retract h.clearance && le h.clearance p.z)

unfoldable pub are_heights : Heights → Point → Bool
are_heights h p = are_three h.clearance h.retract h.feed && (are_three p.x p.y p.z && in_order h p)

-- A run's numbers finite with magnitude at most 1e6, its z at most feed.
unfoldable pub is_run : Float → Run → Bool
is_run feed r = are_three r.ax r.ay r.z && (is_coordinate r.bx && (is_coordinate r.by && le r.z feed))

unfoldable pub are_runs : Float → List Run → Bool
are_runs feed [] = true
are_runs feed (r ∷ rs) = is_run feed r && are_runs feed rs

-- ---- 27: first id not 0, first id + 7 * runs + 1 within a u64
unfoldable pub are_ids : ℕ → ℕ → Bool
are_ids first n = cond (eqb first 0) false (leb (first + 7 * n + 1) largest)

-- ----

-- 1, 26 and 27; 0 where none is given.
unfoldable pub refusal_of_runs : List Float → Float → ℕ → ℕ
refusal_of_runs t feed first =
    demand (are_runs feed (runs_of t)) 26
    (demand (are_ids first (room_of t)) 27
    0)

unfoldable pub refusal_of_begin : List Float → Heights → Point → ℕ → ℕ
refusal_of_begin t h p first =
    demand (eqb (length t % 5) 0) 1
    (demand (are_heights h p) 26
    (refusal_of_runs t h.feed first))

-- The state at the beginning: lift, run 0, where the tool stands. A refusal leaves it zero.
abbrev pub state_at : Point → ℕ → State
state_at p first = record { phase = Lift; run = 0; position = p; next_id = first }

-- The answer: the refusal or 0, and the state.
pub record Begun : Type 0 where
  pub refusal : ℕ
  pub state : State

abbrev pub begun : ℕ → State → Begun
begun k s = record { refusal = k; state = s }

-- How an answer is told.
unfoldable pub told : Result State Refusal → Begun
told (Ok s) = begun 0 s
told (Err r) = begun (number_of r) (state_at (point f0 f0 f0) 0)

unfoldable pub begin_of : List Float → Heights → Point → ℕ → Begun
begin_of t h p first =
    let k = refusal_of_begin t h p first in
    cond (eqb k 0) (begun 0 (state_at p first)) (begun k (state_at (point f0 f0 f0) 0))
