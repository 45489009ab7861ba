-- What the parts of a search promise each other, and what it leaves once all levels are searched and the open run is written.
use Rattle.std.specs.Prelude.{List, [], map, ◌≡◌, ◌+◌, min, Float, length}
use Rattle.numbers.specs.Reals.{f0}
use Rattle.fives.specs.Tables.{room_of, written}
use Rattle.runs.specs.Runs.{joined_of, cut_of, five_of}
use Rattle.runs.specs.Pieces.{kept_of, dropped_by}
use Rattle.runs.specs.Inside.{work, taken_all}
use Rattle.row_runs.specs.Search.{Found}
use Rattle.search.specs.declared.Swept.{Swept}
use Rattle.search.specs.declared.Counted.{Counted}

-- Nothing found yet, from where the search stands.
abbrev pub from : Swept → Found
from s = record { rows = s.rows; pieces = [] }

-- From where the search stood, s₀, to where it stands, s: it has found f, and has taken its pieces.
pub record Takes (t₀ : List Float) (s₀ : Swept) (f : Found) (t : List Float) (s : Swept) : Type 0 where
  pub rows : s.rows ≡ f.rows
  pub taken : work t s.stand.tally ≡ taken_all (work t₀ s₀.stand.tally) f.pieces

-- What a search leaves: the joined runs in the table as far as there is room, and what it counts.
pub record Searched (t₀ : List Float) (f : Found) (t : List Float) (y : Counted) : Type 0 where
  pub table : t ≡ written (map five_of (joined_of (kept_of f.pieces))) t₀
  pub count : y.tally.count ≡ min (length (joined_of (kept_of f.pieces))) (room_of t₀ + 1)
  pub cut : y.tally.cut ≡ cut_of (joined_of (kept_of f.pieces))
  pub dropped : y.tally.dropped ≡ dropped_by f0 f.pieces
  pub rows : y.rows ≡ f.rows
