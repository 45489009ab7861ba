-- What the C function that joins runs leaves behind: its refusal, the lent table, and the number of runs.
use Rattle.std.specs.Prelude.{List, [], ◌∷◌, ℕ, Float, get_or}
use Rattle.join.specs.Join as join
use Rattle.join.specs.Join.{Joined}

-- Runs joined.
pub record JoinLeft : Type 0 where
  pub refusal : ℕ
  pub runs : List Float
  pub count : List ℕ

abbrev pub join_left : ℕ → List Float → List ℕ → JoinLeft
join_left k t ns = record { refusal = k; runs = t; count = ns }

unfoldable pub join_left_by : join.Outcome → JoinLeft
join_left_by o = join_left o.answer.refusal o.runs (o.answer.count ∷ [])

-- The answer that C reads off its array.
abbrev pub joined_from : ℕ → List ℕ → Joined
joined_from k ns = record { refusal = k; count = get_or ns 0 0 }
