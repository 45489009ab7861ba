-- The plan as C asks for it: seven numbers, an axis' number, and what is left in C's tables and arrays.
use Rattle.std.specs.Prelude.{cond, List, [], ◌∷◌, ℕ, min, eqb, Float, get_or}
use Rattle.numbers.specs.Reals.{num}
use Rattle.grid.specs.Boxes.{is_boxed}
use Rattle.grid.specs.Index.{Index}
use Rattle.rules.specs.Ladder.{demand}
use Rattle.query.specs.Asked.{is_marked}
use Rattle.rows.specs.declared.Axis.{Axis}
use Rattle.rows.specs.declared.Axis.TheVariants.{X, Y}
use Rattle.parameters.specs.declared.Parameters.{Parameters}
use Rattle.plan.specs.Plan.{Planned, Outcome, outcome, refused_by, plan_of}

-- The parameters from their seven numbers.
unfoldable pub parameters_from : List Float → Parameters
parameters_from xs =
    record {
      tolerance = num xs 0;
      level_tolerance = num xs 1;
      stepover = num xs 2;
      stock_to_leave = num xs 3;
      stock_bottom = num xs 4;
      stock_top = num xs 5;
      cutting_length = num xs 6;
    }

-- The plan along the axis of that number: 0 is X, 1 is Y. Any other is a parameter that is refused: 9 in its place, after 1 and 23 and before 7.
unfoldable pub plan_along : Index → List ℕ → List Float → List Float → Parameters → ℕ → Outcome
plan_along ix marks levels runs p axis =
    cond (eqb axis 0) (plan_of ix marks levels runs p X)
    (cond (eqb axis 1) (plan_of ix marks levels runs p Y)
    (outcome (refused_by (demand (is_marked ix.mesh marks) 1 (demand (is_boxed ix.mesh ix.boxes) 23 9))) levels runs marks))

-- The axis of a number, where it has one.
abbrev pub axis_from : ℕ → Axis
axis_from n = cond (eqb n 0) X Y

-- A count as C gets it: 4294967295 stands for all that are more.
abbrev pub narrowed : ℕ → ℕ
narrowed n = min n 4294967295

-- A plan made: the refusal, the three lent tables, cut and dropped length, the numbers of levels, rows and runs.
pub record PlanLeft : Type 0 where
  pub refusal : ℕ
  pub levels : List Float
  pub runs : List Float
  pub marks : List ℕ
  pub lengths : List Float
  pub counts : List ℕ

abbrev pub plan_left : ℕ → List Float → List Float → List ℕ → List Float → List ℕ → PlanLeft
plan_left k ls rs ms fs ns = record { refusal = k; levels = ls; runs = rs; marks = ms; lengths = fs; counts = ns }

unfoldable pub plan_left_by : Outcome → PlanLeft
plan_left_by o =
    let a = o.answer in
    plan_left a.refusal o.levels o.runs o.marks
    (a.cut ∷ a.dropped ∷ [])
    (narrowed a.levels ∷ narrowed a.rows ∷ narrowed a.runs ∷ [])

-- The plan's answer that C reads off its arrays.
abbrev pub planned_from : ℕ → List Float → List ℕ → Planned
planned_from k fs ns = record { refusal = k; levels = get_or ns 0 0; rows = get_or ns 1 0; runs = get_or ns 2 0; cut = num fs 0; dropped = num fs 1 }
