-- What the parts of the run search promise each other: the table of joined runs and the tally, piece after piece.
use Rattle.std.specs.Prelude.{Bool, true, false, cond, ◌&&◌, List, [], ◌∷◌, ℕ, ◌+◌, leb, Float}
use Rattle.numbers.specs.Reals.{◌⊕◌, f0}
use Rattle.fives.specs.Tables.{room_of, put_at}
use Rattle.runs.specs.Runs.{length_of, touches_of, lengthened, five_of}
use Rattle.runs.specs.Pieces.{Piece}
use Rattle.runs.specs.declared.Run.{Run}
use Rattle.runs.specs.declared.Tally.{Tally}

pub record Work : Type 0 where
  pub table : List Float
  pub tally : Tally

abbrev pub work : List Float → Tally → Work
work t y = record { table = t; tally = y }

-- One more, as long as there was room: one more than there is room for says enough.
unfoldable pub on_to : ℕ → ℕ → ℕ
on_to room count = cond (leb count room) (count + 1) count

-- The open run written.
unfoldable pub closed_of : List Float → Tally → Work
closed_of t y =
    cond y.some
    (work (put_at t y.count (five_of y.last))
    (record { some = false; last = y.last; count = on_to (room_of t) y.count; cut = y.cut ⊕ length_of y.last; dropped = y.dropped }))
    (work t y)

-- A run kept: it joins the open one, or that one is written and it is the open one.
unfoldable pub kept_by : List Float → Tally → Run → Work
kept_by t y r =
    cond (y.some && touches_of y.last r)
    (work t (record { some = true; last = lengthened y.last r; count = y.count; cut = y.cut; dropped = y.dropped }))
    (let w = closed_of t y in
    work w.table (record { some = true; last = r; count = w.tally.count; cut = w.tally.cut; dropped = w.tally.dropped }))

-- A run dropped.
unfoldable pub left_by : Tally → Run → Tally
left_by y r = record { some = y.some; last = y.last; count = y.count; cut = y.cut; dropped = y.dropped ⊕ length_of r }

-- One piece more.
unfoldable pub taken_by : List Float → Tally → Run → Bool → Work
taken_by t y r kept = cond kept (kept_by t y r) (work t (left_by y r))

-- Pieces, one after the other.
unfoldable pub taken_all : Work → List Piece → Work
taken_all w [] = w
taken_all w (p ∷ ps) = taken_all (taken_by w.table w.tally p.run p.kept) ps

-- Nothing yet.
abbrev pub no_run : Run
no_run = record { ax = f0; ay = f0; bx = f0; by = f0; z = f0 }

abbrev pub begun : Tally
begun = record { some = false; last = no_run; count = 0; cut = f0; dropped = f0 }
