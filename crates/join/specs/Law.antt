-- Document 02, request 13: joining does not depend on when it is done.
use Rattle.std.specs.Prelude.{List, ◌++◌, ◌≡◌, ℕ, Float, take, drop}
use Rattle.runs.specs.Runs.{joined_of}
use Rattle.runs.specs.declared.Run.{Run}
use Rattle.join.specs.Join.{Outcome, runs_in, runs_of}

-- The law, for all lists of runs: joining a joined list changes nothing; and wherever a list is parted, also at its ends, joining its first n runs, adding
-- the rest and joining again gives what joining everything once gives.
pub record WheneverJoined : Type 0 where
  pub again : (rs : List Run) → joined_of (joined_of rs) ≡ joined_of rs
  pub parted : (rs : List Run) (n : ℕ) → joined_of (joined_of (take n rs) ++ drop n rs) ≡ joined_of rs

-- What an accepted call hands on: the first `count` runs of the table are the joined list itself, so the law speaks of them.
abbrev pub HandedOn : List Float → Outcome → Type 0
HandedOn t o = o.answer.refusal ≡ 0 → runs_in o.runs 0 o.answer.count ≡ joined_of (runs_of t)
