-- Document 02, request 9: the phase table, as the source has it. For each phase where its move ends, the move's kind, and the phase after it.
use Rattle.std.specs.Prelude.{Bool, cond, ◌&&◌, List, ℕ, ◌+◌, eqb, Float}
use Rattle.std.specs.Float.Ieee.{eq}
use Rattle.numbers.specs.Reals.{max_of}
use Rattle.fives.specs.Tables.{room_of}
use Rattle.runs.specs.declared.Run.{Run}
use Rattle.join.specs.Join.{run_in}
use Rattle.moves.specs.declared.Point.{Point}
use Rattle.moves.specs.declared.Heights.{Heights}
use Rattle.moves.specs.declared.State.{State}
use Rattle.moves.specs.declared.Leg.{Leg}
use Rattle.moves.specs.declared.Phase.{Phase}
use Rattle.moves.specs.declared.Phase.TheVariants as phase
use Rattle.moves.specs.declared.Kind.{Kind}
use Rattle.moves.specs.declared.Kind.TheVariants as kind

abbrev pub point : Float → Float → Float → Point
point x y z = record { x = x; y = y; z = z }

-- Where a run begins and where it ends.
abbrev pub start_of : Run → Point
start_of r = point r.ax r.ay r.z

abbrev pub end_of : Run → Point
end_of r = point r.bx r.by r.z

-- A line of the phase table: where the move ends, its kind, the phase after it, and the run that one is about.
abbrev pub leg : Point → Kind → Phase → ℕ → Leg
leg p k next m = record { end = p; kind = k; next = next; run = m }

-- The phase table, at position p with run m of the table: lift to the clearance height; approach over the run's start; descend to the feed height; plunge to
-- the run's z; cut to the run's end; retract to the feed height, or stay above it; rise to the retract height, after the last run to the clearance height, or
-- stay above it.
unfoldable pub line_of : List Float → Heights → Phase → ℕ → Point → Leg
line_of t h phase.Lift m p = leg (point p.x p.y h.clearance) kind.Rapid (cond (eqb (room_of t) 0) phase.Ended phase.Approach) m
line_of t h phase.Approach m p = leg (point (run_in t m).ax (run_in t m).ay p.z) kind.Rapid phase.Descend m
line_of t h phase.Descend m p = leg (point p.x p.y h.feed) kind.Rapid phase.Plunge m
line_of t h phase.Plunge m p = leg (point p.x p.y (run_in t m).z) kind.Plunge phase.Cut m
line_of t h phase.Cut m p = leg (end_of (run_in t m)) kind.Cut phase.Retract m
line_of t h phase.Retract m p = leg (point p.x p.y (max_of h.feed p.z)) kind.Retract phase.Rise m
line_of t h phase.Rise m p =
    cond (eqb (m + 1) (room_of t))
    (leg (point p.x p.y (max_of h.clearance p.z)) kind.Rapid phase.Ended (m + 1))
    (leg (point p.x p.y (max_of h.retract p.z)) kind.Rapid phase.Approach (m + 1))
line_of t h phase.Ended m p = leg p kind.Rapid phase.Ended m

-- The line that a state is at.
unfoldable pub leg_of : List Float → Heights → State → Leg
leg_of t h s = line_of t h s.phase s.run s.position

-- Whether two points are equal, as floats compare: a move whose end equals its start is left out.
unfoldable pub same_of : Point → Point → Bool
same_of a b = eq a.x b.x && (eq a.y b.y && eq a.z b.z)

-- ---- numbers of the phases and of the kinds

unfoldable pub phase_number : Phase → ℕ
phase_number phase.Lift = 0
phase_number phase.Approach = 1
phase_number phase.Descend = 2
phase_number phase.Plunge = 3
phase_number phase.Cut = 4
phase_number phase.Retract = 5
phase_number phase.Rise = 6
phase_number phase.Ended = 7

unfoldable pub kind_number : Kind → ℕ
kind_number kind.Rapid = 1
kind_number kind.Plunge = 2
kind_number kind.Cut = 3
kind_number kind.Retract = 4

unfoldable pub is_lift : Phase → Bool
is_lift p = eqb (phase_number p) 0

unfoldable pub is_ended : Phase → Bool
is_ended p = eqb (phase_number p) 7
