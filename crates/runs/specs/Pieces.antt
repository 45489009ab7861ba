-- Document 01, "Levels and runs": halving. A run that is not clear is halved, and the halves again, down to a smallest length or 32 times.
use Rattle.std.specs.Prelude.{Bool, true, false, cond, List, [], ◌∷◌, ◌++◌, ℕ, zero, suc, Float}
use Rattle.std.specs.Float.Ieee.{le}
use Rattle.numbers.specs.Reals.{◌⊕◌, ◌⊘◌, f2}
use Rattle.runs.specs.Runs.{length_of}
use Rattle.runs.specs.declared.Run.{Run}

-- A piece of a run, kept or dropped.
pub record Piece : Type 0 where
  pub run : Run
  pub kept : Bool

abbrev pub piece : Run → Bool → Piece
piece r k = record { run = r; kept = k }

-- The middle between two numbers.
abbrev pub middle : Float → Float → Float
middle a b = (a ⊕ b) ⊘ f2

-- The halves of a run.
abbrev pub first_half : Run → Run
first_half r = record { ax = r.ax; ay = r.ay; bx = middle r.ax r.bx; by = middle r.ay r.by; z = r.z }

abbrev pub second_half : Run → Run
second_half r = record { ax = middle r.ax r.bx; ay = middle r.ay r.by; bx = r.bx; by = r.by; z = r.z }

-- The pieces of a run, in the order made, with `left` halvings left: a clear run is kept; one that is not is dropped if it is as short as `least` or no
-- halving is left, and else halved.
unfoldable pub pieces_of : (Run → Bool) → Float → ℕ → Run → List Piece
pieces_of clear least zero r = piece r (clear r) ∷ []
pieces_of clear least (suc left) r =
    cond (clear r) (piece r true ∷ [])
    (cond (le (length_of r) least) (piece r false ∷ []) (pieces_of clear least left (first_half r) ++ pieces_of clear least left (second_half r)))

-- The kept ones.
unfoldable pub kept_of : List Piece → List Run
kept_of [] = []
kept_of (p ∷ ps) = cond p.kept (p.run ∷ kept_of ps) (kept_of ps)

-- The lengths of the dropped ones added to a sum, in the order made.
unfoldable pub dropped_by : Float → List Piece → Float
dropped_by sum [] = sum
dropped_by sum (p ∷ ps) = dropped_by (cond p.kept sum (sum ⊕ length_of p.run)) ps
