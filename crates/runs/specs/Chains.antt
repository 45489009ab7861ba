-- Document 02, request 10: nothing is lost between the halves of a run.
use Rattle.std.specs.Prelude.{Bool, true, List, [], ◌∷◌, ◌++◌, ◌≡◌, Float}
use Rattle.fives.specs.Groups.{Each}
use Rattle.runs.specs.Runs.{touches_of, lengthened}
use Rattle.runs.specs.Pieces.{Piece}
use Rattle.runs.specs.declared.Run.{Run}

-- A point, seen from above.
pub record Point : Type 0 where
  pub x : Float
  pub y : Float

-- Where a run begins, and where it ends.
abbrev pub first_of : Run → Point
first_of r = record { x = r.ax; y = r.ay }

abbrev pub last_of : Run → Point
last_of r = record { x = r.bx; y = r.by }

-- Pieces from point a to point b, kept and dropped, in the order made: the first begins at a, each next at the very point where the one before it ended, and
-- the last ends at b.
unfoldable pub Chained : Point → List Piece → Point → Type 0
Chained a [] b = a ≡ b
Chained a (p ∷ ps) b = (first_of p.run ≡ a) × Chained (last_of p.run) ps b

-- What is said of every kept piece.
unfoldable pub EachKept : (Run → Type 0) → List Piece → Type 0
EachKept P [] = Unit
EachKept P (p ∷ ps) = (p.kept ≡ true → P p.run) × EachKept P ps

-- Nothing lost of a run: its pieces lead from its first point to its last, and every kept one is clear.
pub record Whole (clear : Run → Bool) (r : Run) (ps : List Piece) : Type 0 where
  pub chained : Chained (first_of r) ps (last_of r)
  pub kept : EachKept (λ q. clear q ≡ true) ps

-- Run g and the runs behind it make the run j: each touches what it is joined to.
unfoldable pub Joins : Run → List Run → Run → Type 0
Joins g [] j = g ≡ j
Joins g (r ∷ rs) j = (touches_of g r ≡ true) × Joins (lengthened g r) rs j

-- What joining does to a list: every run lies in one joined run. The list is parted, in its order, into runs that touch, and each part makes one.
pub data LieIn : List Run → List Run → Type 0 where
  none : LieIn [] []
  part : (r : Run) (rs rest : List Run) (j : Run) (js : List Run) → Joins r rs j → LieIn rest js → LieIn (r ∷ rs ++ rest) (j ∷ js)

-- A joined run, piece by piece: it is made of runs that touch, and P is said of each of them.
pub record MadeOf (P : Run → Type 0) (j : Run) : Type 0 where
  pub first : Run
  pub rest : List Run
  pub joins : Joins first rest j
  pub each : Each P (first ∷ rest)
