-- Document 01, "Levels and runs" and "Refusal numbers": what `plan` answers, and what it leaves in levels, runs and marks.
use Rattle.std.specs.Prelude.{cond, List, [], map, ◌≡◌, ℕ, eqb, ltb, Float, length, replicate, Result, Ok, Err}
use Rattle.numbers.specs.Reals.{f0}
use Rattle.grid.specs.Boxes.{is_boxed}
use Rattle.grid.specs.Index.{Index, BuiltFrom}
use Rattle.rules.specs.Ladder.{refuse, demand}
use Rattle.query.specs.Asked.{is_marked}
use Rattle.query.specs.Usable.{usable_whole}
use Rattle.fives.specs.Tables.{room_of, written, zeroed}
use Rattle.levels.specs.declared.Level.{Level}
use Rattle.levels.specs.Levels.{levels_of, five_of as levelFive}
use Rattle.runs.specs.declared.Run.{Run}
use Rattle.runs.specs.Runs.{joined_of, cut_of, five_of as runFive}
use Rattle.runs.specs.Pieces.{kept_of, dropped_by}
use Rattle.rows.specs.declared.Axis.{Axis}
use Rattle.parameters.specs.declared.Parameters.{Parameters}
use Rattle.parameters.specs.Terms.{are_terms, refusal_of_levels}
use Rattle.probe.specs.Probe.{height_under}
use Rattle.row_runs.specs.Search.{Found, levels_found}
use Rattle.refusals.specs.declared.Refusal.{Refusal}
use Rattle.refusals.specs.Numbers.{number_of}
use Rattle.plan.specs.declared.Planned as planned

-- ---- what is refused

-- 1, 23, 9 and 7 in this order: marks, box table, parameters with the header's radius and floor, then the index, every cell and every triangle and no mark.
-- 0 where none is given.
unfoldable pub refusal_of_input : Index → List ℕ → Parameters → ℕ
refusal_of_input ix marks p =
    demand (is_marked ix.mesh marks) 1
    (demand (is_boxed ix.mesh ix.boxes) 23
    (demand (are_terms p ix.header.r ix.header.floor) 9
    (demand (usable_whole ix) 7
    0)))

-- 11, 10 and 12 of the levels, and then 13: more joined runs than room. 0 where none is given.
unfoldable pub refusal_of_tables : ℕ → ℕ → Parameters → Axis → Float → List Level → List Run → ℕ
refusal_of_tables levelRoom runRoom p axis r ls rs =
    let k = refusal_of_levels levelRoom p axis r ls in
    cond (eqb k 0) (refuse (ltb runRoom (length rs)) 13 0) k

-- ---- what is planned

-- The levels of the mesh over the header's floor.
unfoldable pub levels_under : Index → Parameters → List Level
levels_under ix p = levels_of ix.mesh ix.boxes ix.header.n p.tolerance p.level_tolerance ix.header.floor

-- What the search finds on them: how many rows have a stretch, and all pieces in the order made.
unfoldable pub found_on : Index → Parameters → Axis → List Level → Found
found_on ix p axis ls = levels_found (height_under ix) p axis ix.header.r (record { rows = 0; pieces = [] }) ls

-- ---- what is answered

-- A plan's answer: its refusal or 0, the numbers of levels, rows and runs, the cut length and the dropped length.
pub record Planned : Type 0 where
  pub refusal : ℕ
  pub levels : ℕ
  pub rows : ℕ
  pub runs : ℕ
  pub cut : Float
  pub dropped : Float

-- The answer of a refused plan: its number, zero counts and lengths.
abbrev pub refused_by : ℕ → Planned
refused_by k = record { refusal = k; levels = 0; rows = 0; runs = 0; cut = f0; dropped = f0 }

-- How an answer is told.
unfoldable pub told : Result planned.Planned Refusal → Planned
told (Ok a) = record { refusal = 0; levels = a.levels; rows = a.rows; runs = a.runs; cut = a.cut; dropped = a.dropped }
told (Err r) = refused_by (number_of r)

-- ---- what is left

-- The answer, the tables of levels and runs, and the marks.
pub record Outcome : Type 0 where
  pub answer : Planned
  pub levels : List Float
  pub runs : List Float
  pub marks : List ℕ

abbrev pub outcome : Planned → List Float → List Float → List ℕ → Outcome
outcome a levels runs marks = record { answer = a; levels = levels; runs = runs; marks = marks }

-- The answer of an accepted plan: the numbers of levels, rows and runs, the cut length and the dropped length.
abbrev pub accepted_with : List Level → Found → List Run → Planned
accepted_with ls f rs =
    record { refusal = 0; levels = length ls; rows = f.rows; runs = length rs; cut = cut_of rs; dropped = dropped_by f0 f.pieces }

-- Every mark 0.
abbrev pub wiped : List ℕ → List ℕ
wiped marks = replicate (length marks) 0

-- Accepted, both tables hold what was found, and their unused entries are zero; refused with 11, 10, 12 or 13 both are zero. The marks are zero either way.
unfoldable pub worked_of : Index → List ℕ → List Float → List Float → Parameters → Axis → Outcome
worked_of ix marks levels runs p axis =
    let ls = levels_under ix p in
    let f = found_on ix p axis ls in
    let rs = joined_of (kept_of f.pieces) in
    let k = refusal_of_tables (room_of levels) (room_of runs) p axis ix.header.r ls rs in
    cond (eqb k 0)
    (outcome (accepted_with ls f rs) (written (map levelFive ls) (zeroed levels)) (written (map runFive rs) (zeroed runs)) (wiped marks))
    (outcome (refused_by k) (zeroed levels) (zeroed runs) (wiped marks))

-- The plan. Refusals 1, 23, 9 and 7 touch nothing.
unfoldable pub plan_of : Index → List ℕ → List Float → List Float → Parameters → Axis → Outcome
plan_of ix marks levels runs p axis =
    let k = refusal_of_input ix marks p in
    cond (eqb k 0) (worked_of ix marks levels runs p axis) (outcome (refused_by k) levels runs marks)

-- What the plan promises of its refusal over the index built from its mesh: it is not 7.
abbrev pub NeverSeven : Index → ℕ → Type 0
NeverSeven ix k = BuiltFrom ix → k ≡ 7 → ⊥
