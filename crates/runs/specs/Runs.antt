-- Document 01, "Levels and runs": runs. A run is five numbers (ax, ay, bx, by, z).
use Rattle.std.specs.Prelude.{Bool, ◌&&◌, List, [], ◌∷◌, Float}
use Rattle.std.specs.Float.Ieee.{eq}
use Rattle.numbers.specs.Reals.{◌⊕◌, ◌⊖◌, f0}
use Rattle.roots.specs.Hypot.{hypot_of}
use Rattle.fives.specs.Groups.{grouped}
use Rattle.runs.specs.declared.Run.{Run}

-- A run's length, seen from above.
unfoldable pub length_of : Run → Float
length_of r = hypot_of (r.bx ⊖ r.ax) (r.by ⊖ r.ay)

-- Whether a run begins where the last one ended, at the same z.
unfoldable pub touches_of : Run → Run → Bool
touches_of last r = eq last.bx r.ax && (eq last.by r.ay && eq last.z r.z)

-- The last run with one that touches it.
abbrev pub lengthened : Run → Run → Run
lengthened last r = record { ax = last.ax; ay = last.ay; bx = r.bx; by = r.by; z = last.z }

-- Joining: each run that touches the one before it becomes part of it.
unfoldable pub joined_of : List Run → List Run
joined_of rs = grouped touches_of lengthened (λ r. r) rs

-- The lengths of runs added to a sum, in list order.
unfoldable pub summed : Float → List Run → Float
summed sum [] = sum
summed sum (r ∷ rs) = summed (sum ⊕ length_of r) rs

-- The cut length: summed from +0.0.
abbrev pub cut_of : List Run → Float
cut_of rs = summed f0 rs

-- A run's five numbers.
abbrev pub five_of : Run → List Float
five_of r = r.ax ∷ r.ay ∷ r.bx ∷ r.by ∷ r.z ∷ []
