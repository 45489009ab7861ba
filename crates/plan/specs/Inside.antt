-- What the parts of the plan promise each other.
use Rattle.std.specs.Prelude.{cond, List, map, ◌≡◌, ℕ, ltb, Float, length, Result, IfOk}
use Rattle.numbers.specs.Reals.{f0}
use Rattle.grid.specs.Index.{Index}
use Rattle.fives.specs.Tables.{room_of, written, zeroed}
use Rattle.levels.specs.declared.Level.{Level}
use Rattle.levels.specs.Levels.{five_of as levelFive}
use Rattle.runs.specs.Runs.{joined_of, cut_of, five_of as runFive}
use Rattle.runs.specs.Pieces.{kept_of, dropped_by}
use Rattle.rows.specs.declared.Axis.{Axis}
use Rattle.parameters.specs.declared.Parameters.{Parameters}
use Rattle.parameters.specs.Terms.{refusal_of_levels}
use Rattle.probe.specs.Inside.{Askable}
use Rattle.row_runs.specs.Search.{Found}
use Rattle.search.specs.declared.Counted.{Counted}
use Rattle.refusals.specs.declared.Refusal.{Refusal}
use Rattle.refusals.specs.Numbers.{code_of}
use Rattle.plan.specs.Plan.{Planned, refused_by, wiped}

-- What 1 and 7 let pass: a mark for each triangle, and every question over the mesh can be walked.
pub record Ready (ix : Index) (marks : List ℕ) : Type 0 where
  pub askable : Askable ix
  pub size : length marks ≡ ix.header.n

-- The levels ls stand in their table, the marks are wiped, and it is answered how many levels there are, or why they are refused.
pub record Surveys (ls : List Level) (p : Parameters) (axis : Axis) (r : Float) (levels₀ : List Float)
    (marks₀ : List ℕ) (levels : List Float) (marks : List ℕ) (s : Result ℕ Refusal) : Type 0 where
  pub table : levels ≡ written (map levelFive ls) levels₀
  pub clean : marks ≡ wiped marks₀
  pub count : IfOk s (λ n. n ≡ length ls)
  pub refusal : code_of s ≡ refusal_of_levels (room_of levels₀) p axis r ls

-- An answer with both tables.
pub record Settled : Type 0 where
  pub answer : Planned
  pub levels : List Float
  pub runs : List Float

abbrev pub settled : Planned → List Float → List Float → Settled
settled a levels runs = record { answer = a; levels = levels; runs = runs }

-- A late refusal: both tables are zeroed.
abbrev pub given_up : ℕ → List Float → List Float → Settled
given_up k levels runs = settled (refused_by k) (zeroed levels) (zeroed runs)

-- 13 where the search counted more runs than there is room for; else the answer, and the tables as they stand.
unfoldable pub settled_of : List Float → List Float → ℕ → Counted → Settled
settled_of levels runs count y =
    cond (ltb (room_of runs) y.tally.count) (given_up 13 levels runs)
    (settled (record { refusal = 0; levels = count; rows = y.rows; runs = y.tally.count; cut = y.tally.cut; dropped = y.tally.dropped }) levels runs)

-- The same from what the search found, over a table of runs that it was written to.
unfoldable pub finished_of : List Float → List Float → ℕ → Found → Settled
finished_of levels runs count f =
    let rs = joined_of (kept_of f.pieces) in
    cond (ltb (room_of runs) (length rs)) (given_up 13 levels runs)
    (settled (record { refusal = 0; levels = count; rows = f.rows; runs = length rs; cut = cut_of rs; dropped = dropped_by f0 f.pieces })
    levels (written (map runFive rs) runs))
