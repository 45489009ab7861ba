-- Document 02, request 13: joining as an operation of its own, over a lent table of runs. It is the joining of document 01, "Levels and runs".
use Rattle.std.specs.Prelude.{cond, List, [], ◌∷◌, map, ℕ, zero, suc, ◌+◌, ◌*◌, ◌%◌, eqb, Float, length, Result, Ok, Err}
use Rattle.numbers.specs.Reals.{num}
use Rattle.fields.specs.Rows.{all_finite}
use Rattle.rules.specs.Ladder.{demand}
use Rattle.fives.specs.Tables.{room_of, written, zeroed}
use Rattle.runs.specs.Runs.{joined_of, five_of}
use Rattle.runs.specs.declared.Run.{Run}
use Rattle.refusals.specs.declared.Refusal.{Refusal}
use Rattle.refusals.specs.Numbers.{number_of}

-- ---- what is refused

-- 1: the table is not five numbers a run. 2: one is not finite. 0 where none is given.
unfoldable pub refusal_of : List Float → ℕ
refusal_of t =
    demand (eqb (length t % 5) 0) 1
    (demand (all_finite t) 2
    0)

-- ---- what is joined

-- Run m of a table.
abbrev pub run_in : List Float → ℕ → Run
run_in t m = record { ax = num t (m * 5); ay = num t (m * 5 + 1); bx = num t (m * 5 + 2); by = num t (m * 5 + 3); z = num t (m * 5 + 4) }

-- Runs m, m + 1, .. n of them.
unfoldable pub runs_in : List Float → ℕ → ℕ → List Run
runs_in t m zero = []
runs_in t m (suc n) = run_in t m ∷ runs_in t (m + 1) n

-- All runs of a table.
abbrev pub runs_of : List Float → List Run
runs_of t = runs_in t 0 (room_of t)

-- ---- what is answered

-- How many runs there are afterwards, with the refusal's number, 0 where none is given.
pub record Joined : Type 0 where
  pub refusal : ℕ
  pub count : ℕ

-- How an answer is told: a refused table counts no run.
unfoldable pub told : Result ℕ Refusal → Joined
told (Ok n) = record { refusal = 0; count = n }
told (Err r) = record { refusal = number_of r; count = 0 }

-- ---- what is left

-- The answer and the table.
pub record Outcome : Type 0 where
  pub answer : Joined
  pub runs : List Float

abbrev pub outcome : Joined → List Float → Outcome
outcome a t = record { answer = a; runs = t }

-- The joined runs stand first, zeros after, and their number is answered; a refusal changes nothing and counts none.
unfoldable pub join_of : List Float → Outcome
join_of t =
    let k = refusal_of t in
    let rs = joined_of (runs_of t) in
    cond (eqb k 0)
    (outcome (record { refusal = 0; count = length rs }) (written (map five_of rs) (zeroed t)))
    (outcome (record { refusal = k; count = 0 }) t)
