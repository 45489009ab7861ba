-- Document 02, request 9: what is proved of the whole list of moves from an accepted beginning.
use Rattle.std.specs.Prelude.{true, cond, List, [], ◌∷◌, ◌⊎◌, ◌≡◌, ℕ, ◌+◌, ◌*◌, ◌≤◌, T, eqb, Float, length, None}
use Rattle.std.specs.Float.Ieee.{le}
use Rattle.fives.specs.Tables.{room_of}
use Rattle.runs.specs.declared.Run.{Run}
use Rattle.moves.specs.declared.Point.{Point}
use Rattle.moves.specs.declared.Heights.{Heights}
use Rattle.moves.specs.declared.State.{State}
use Rattle.moves.specs.declared.Move.{Move}
use Rattle.moves.specs.declared.Kind.TheVariants.{Rapid}
use Rattle.moves.specs.Phases.{start_of, end_of, same_of, kind_number}
use Rattle.moves.specs.Begin.{runs_of}
use Rattle.moves.specs.Next.{lines_left}
use Rattle.moves.specs.Whole.{Whole, moves_of, walked}

-- Ids count up by one from n.
unfoldable pub Counted : ℕ → List Move → Type 0
Counted n [] = Unit
Counted n (m ∷ ms) = (m.id ≡ n) × Counted (n + 1) ms

-- Each move begins where the one before it ended, the first at p: bit for bit.
unfoldable pub Chained : Point → List Move → Type 0
Chained p [] = Unit
Chained p (m ∷ ms) = (m.start ≡ p) × Chained m.end ms

-- A rapid does not go below the feed height, and where its x or y changes it lies at or above the retract height at both ends.
pub record SafeRapid (h : Heights) (m : Move) : Type 0 where
  pub begins : T (le h.feed m.start.z)
  pub ends : T (le h.feed m.end.z)
  pub upright : ((m.end.x ≡ m.start.x) × (m.end.y ≡ m.start.y)) ⊎ (T (le h.retract m.start.z) × T (le h.retract m.end.z))

unfoldable pub Safe : Heights → List Move → Type 0
Safe h [] = Unit
Safe h (m ∷ ms) = (m.kind ≡ Rapid → SafeRapid h m) × Safe h ms

-- The cuts of a list, and the runs that are not empty: a run is left out where its end equals its start, as floats compare.
unfoldable pub cuts_in : List Move → List Move
cuts_in [] = []
cuts_in (m ∷ ms) = cond (eqb (kind_number m.kind) 3) (m ∷ cuts_in ms) (cuts_in ms)

unfoldable pub full_of : List Run → List Run
full_of [] = []
full_of (r ∷ rs) = cond (same_of (end_of r) (start_of r)) (full_of rs) (r ∷ full_of rs)

-- Cuts that are these runs, one for one: each ends at its run's end, bit for bit, and begins at its run's start, as floats compare.
unfoldable pub CutsAre : List Move → List Run → Type 0
CutsAre [] [] = Unit
CutsAre [] (r ∷ rs) = ⊥
CutsAre (m ∷ ms) [] = ⊥
CutsAre (m ∷ ms) (r ∷ rs) = (m.end ≡ end_of r) × (same_of (start_of r) m.start ≡ true) × CutsAre ms rs

-- The moves from a state that an accepted beginning gave: they are the phase table's; after at most 7 * runs + 1 of them comes the end, and no refusal; ids,
-- starts, rapids and cuts are as said above.
pub record Lawful (t : List Float) (h : Heights) (s : State) (w : Whole) : Type 0 where
  pub table : w.moves ≡ walked t h (lines_left (room_of t) s) s
  pub few : length w.moves ≤ 7 * room_of t + 1
  pub accepted : w.stop.refusal ≡ 0
  pub ended : w.stop.step ≡ None
  pub ids : Counted s.next_id w.moves
  pub chained : Chained s.position w.moves
  pub safe : Safe h w.moves
  pub cuts : CutsAre (cuts_in w.moves) (full_of (runs_of t))

-- What `begin` promises of the steps that follow it.
unfoldable pub Followed : List Float → Heights → ℕ → State → Type 0
Followed t h k s = k ≡ 0 → Lawful t h s (moves_of t h (7 * room_of t + 1) s)
