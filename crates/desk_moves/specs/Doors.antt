-- The moves as C asks for them: heights, points and the state come as arrays of numbers, and the answers go back into arrays.
use Rattle.std.specs.Prelude.{cond, List, [], ◌∷◌, ℕ, ◌%◌, eqb, ltb, Float, length, get_or, Option, None, Some}
use Rattle.numbers.specs.Reals.{f0, num}
use Rattle.rules.specs.Ladder.{demand}
use Rattle.moves.specs.declared.Point.{Point}
use Rattle.moves.specs.declared.Heights.{Heights}
use Rattle.moves.specs.declared.State.{State}
use Rattle.moves.specs.declared.Move.{Move}
use Rattle.moves.specs.declared.Phase.{Phase}
use Rattle.moves.specs.declared.Phase.TheVariants.{Lift, Approach, Descend, Plunge, Cut, Retract, Rise, Ended}
use Rattle.moves.specs.Phases.{point, phase_number, kind_number}
use Rattle.moves.specs.Begin.{Begun}
use Rattle.moves.specs.Next.{Stepped, stepped, next_of}

-- A point from its three numbers; the heights (clearance, retract, feed).
abbrev pub point_from : List Float → Point
point_from xs = point (num xs 0) (num xs 1) (num xs 2)

abbrev pub heights_from : List Float → Heights
heights_from xs = record { clearance = num xs 0; retract = num xs 1; feed = num xs 2 }

-- The phase of a number, 0 to 7.
unfoldable pub early_phase : ℕ → Phase
early_phase n = cond (eqb n 0) Lift (cond (eqb n 1) Approach (cond (eqb n 2) Descend Plunge))

unfoldable pub late_phase : ℕ → Phase
late_phase n = cond (eqb n 4) Cut (cond (eqb n 5) Retract (cond (eqb n 6) Rise Ended))

unfoldable pub phase_from : ℕ → Phase
phase_from n = cond (ltb n 4) (early_phase n) (late_phase n)

-- The state from the position's numbers and from phase, run and next id.
unfoldable pub state_from : List Float → List ℕ → State
state_from ps ns = record { phase = phase_from (get_or ns 0 0); run = get_or ns 1 0; position = point_from ps; next_id = get_or ns 2 0 }

-- A point and a state as numbers.
abbrev pub point_left : Point → List Float
point_left p = p.x ∷ p.y ∷ p.z ∷ []

abbrev pub state_left : State → List ℕ
state_left s = phase_number s.phase ∷ s.run ∷ s.next_id ∷ []

-- A beginning: the refusal, position and state; a refusal leaves both as they were.
pub record BegunLeft : Type 0 where
  pub refusal : ℕ
  pub position : List Float
  pub state : List ℕ

abbrev pub begun_left : ℕ → List Float → List ℕ → BegunLeft
begun_left k ps ns = record { refusal = k; position = ps; state = ns }

unfoldable pub begun_left_by : List Float → List ℕ → Begun → BegunLeft
begun_left_by ps ns a = cond (eqb a.refusal 0) (begun_left 0 (point_left a.state.position) (state_left a.state)) (begun_left a.refusal ps ns)

-- One step from C's arrays: a phase number above 7 is 29, after 1.
unfoldable pub next_from : List Float → List Float → List Float → List ℕ → Stepped
next_from t hs ps ns =
    cond (ltb 7 (get_or ns 0 0)) (stepped (demand (eqb (length t % 5) 0) 1 29) None (state_from ps ns))
    (next_of t (heights_from hs) (state_from ps ns))

-- A move's end, and its kind's number and id; zeros where there is none.
unfoldable pub end_left : Option Move → Point
end_left None = point f0 f0 f0
end_left (Some m) = m.end

unfoldable pub kind_left : Option Move → ℕ
kind_left None = 0
kind_left (Some m) = kind_number m.kind

unfoldable pub id_left : Option Move → ℕ
id_left None = 0
id_left (Some m) = m.id

-- A step: the refusal, position and state, and the move; a refusal leaves position and state as they were.
pub record NextLeft : Type 0 where
  pub refusal : ℕ
  pub position : List Float
  pub state : List ℕ
  pub end : List Float
  pub move : List ℕ

abbrev pub next_left : ℕ → List Float → List ℕ → List Float → List ℕ → NextLeft
next_left k ps ns es ms = record { refusal = k; position = ps; state = ns; end = es; move = ms }

unfoldable pub next_left_by : List Float → List ℕ → Stepped → NextLeft
next_left_by ps ns a =
    let es = point_left (end_left a.step) in
    let ms = kind_left a.step ∷ id_left a.step ∷ [] in
    cond (eqb a.refusal 0)
    (next_left 0 (point_left a.state.position) (state_left a.state) es ms)
    (next_left a.refusal ps ns es ms)
