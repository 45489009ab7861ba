-- Document 02, request 9: the whole list of moves, step after step; and the phase table walked line by line.
use Rattle.std.specs.Prelude.{cond, List, [], ◌∷◌, ℕ, zero, suc, Float, Option, None, Some}
use Rattle.moves.specs.declared.Heights.{Heights}
use Rattle.moves.specs.declared.State.{State}
use Rattle.moves.specs.declared.Move.{Move}
use Rattle.moves.specs.Phases.{leg_of, same_of, is_ended}
use Rattle.moves.specs.Next.{move_by, moved_by, passed_by, Stepped, next_of}

-- A list of moves, and the answer, with no move, that ended it.
pub record Whole : Type 0 where
  pub moves : List Move
  pub stop : Stepped

-- A step put in front of what comes after it; one without a move ends the list.
unfoldable pub before : Option Move → Stepped → Whole → Whole
before None a w = record { moves = []; stop = a }
before (Some m) a w = record { moves = m ∷ w.moves; stop = w.stop }

-- The moves from a state, step after step, at most n of them.
unfoldable pub moves_of : List Float → Heights → ℕ → State → Whole
moves_of t h zero s = record { moves = []; stop = next_of t h s }
moves_of t h (suc n) s = before (next_of t h s).step (next_of t h s) (moves_of t h n (next_of t h s).state)

-- The phase table walked from a state on, n lines at most: the moves of the lines, those left out as empty excepted.
unfoldable pub walked : List Float → Heights → ℕ → State → List Move
walked t h zero s = []
walked t h (suc n) s =
    cond (is_ended s.phase) []
    (cond (same_of (leg_of t h s).end s.position) (walked t h n (passed_by s (leg_of t h s)))
    (move_by s (leg_of t h s) ∷ walked t h n (moved_by s (leg_of t h s))))
