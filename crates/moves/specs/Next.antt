-- Document 02, request 9: one step. It gives the next move, or the end, and the state comes back. Refusals 1, 29.
use Rattle.std.specs.Prelude.{Bool, not, cond, ◌&&◌, ◌||◌, List, ℕ, zero, suc, ◌+◌, ◌-◌, ◌*◌, ◌%◌, eqb, ltb, Float, length, Option, None, Some, Result, Ok, Err}
use Rattle.fives.specs.Tables.{room_of}
use Rattle.rules.specs.Ladder.{refuse, demand}
use Rattle.moves.specs.declared.Heights.{Heights}
use Rattle.moves.specs.declared.State.{State}
use Rattle.moves.specs.declared.Leg.{Leg}
use Rattle.moves.specs.declared.Move.{Move}
use Rattle.moves.specs.declared.Stepped as answer
use Rattle.refusals.specs.declared.Refusal.{Refusal}
use Rattle.refusals.specs.Numbers.{number_of}
use Rattle.moves.specs.Phases.{leg_of, same_of, phase_number, is_lift, is_ended}
use Rattle.moves.specs.Begin.{largest}

-- The move of a line.
abbrev pub move_by : State → Leg → Move
move_by s l = record { start = s.position; end = l.end; kind = l.kind; id = s.next_id }

-- The state after a move that is given, and after one that is left out: there the position stays as it was.
abbrev pub moved_by : State → Leg → State
moved_by s l = record { phase = l.next; run = l.run; position = l.end; next_id = s.next_id + 1 }

abbrev pub passed_by : State → Leg → State
passed_by s l = record { phase = l.next; run = l.run; position = s.position; next_id = s.next_id }

-- How many lines are left: lift is one, and each run has six.
unfoldable pub lines_left : ℕ → State → ℕ
lines_left n s = cond (is_ended s.phase) 0 (6 * (n - s.run) + 1 - phase_number s.phase)

-- An answer: the refusal or 0, the move or none, and the state.
pub record Stepped : Type 0 where
  pub refusal : ℕ
  pub step : Option Move
  pub state : State

abbrev pub stepped : ℕ → Option Move → State → Stepped
stepped k m s = record { refusal = k; step = m; state = s }

-- How an answer to a state is told: a refusal gives no move, and the state as handed.
unfoldable pub told : State → Result answer.Stepped Refusal → Stepped
told s (Ok a) = stepped 0 a.step a.state
told s (Err r) = stepped (number_of r) None s

-- The first line from a state on whose move is not left out, or the end; n is how many lines are left.
unfoldable pub go_on : List Float → Heights → ℕ → State → Stepped
go_on t h zero s = stepped 0 None s
go_on t h (suc n) s =
    cond (is_ended s.phase) (stepped 0 None s)
    (cond (same_of (leg_of t h s).end s.position) (go_on t h n (passed_by s (leg_of t h s)))
    (stepped 0 (Some (move_by s (leg_of t h s))) (moved_by s (leg_of t h s))))

-- 29: a state, not ended, whose run is not in the table, lift without runs excepted, or whose next id is the largest u64.
unfoldable pub is_within : ℕ → State → Bool
is_within n s = is_ended s.phase || (ltb s.run n || (is_lift s.phase && eqb n 0))

unfoldable pub is_spent : State → Bool
is_spent s = not (is_ended s.phase) && eqb s.next_id largest

unfoldable pub refusal_of_state : List Float → State → ℕ
refusal_of_state t s =
    demand (eqb (length t % 5) 0) 1
    (demand (is_within (room_of t) s) 29
    (refuse (is_spent s) 29
    0))

-- One step. A refusal gives no move, and the state as handed.
unfoldable pub next_of : List Float → Heights → State → Stepped
next_of t h s =
    let k = refusal_of_state t s in
    cond (eqb k 0) (go_on t h (lines_left (room_of t) s) s) (stepped k None s)
