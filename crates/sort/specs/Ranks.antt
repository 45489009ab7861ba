-- Document 01, "Levels and runs": triangles sorted by z falling (total order, equal ones in mesh order).
use Rattle.std.specs.Prelude.{Bool, true, false, cond, List, [], ◌∷◌, ℕ, ◌+◌, ◌*◌, ltb, Float}
use Rattle.numbers.specs.Reals.{num}
use Rattle.numbers.specs.Order.{total_less}

-- A triangle's z is that of its first vertex.
abbrev pub z_of : List Float → ℕ → Float
z_of mesh i = num mesh (i * 9 + 2)

-- Triangle i stands before triangle j: it is higher, or as high and its number is lower.
unfoldable pub before : List Float → ℕ → ℕ → Bool
before mesh i j = cond (total_less (z_of mesh j) (z_of mesh i)) true (cond (total_less (z_of mesh i) (z_of mesh j)) false (ltb i j))

-- Number i put into a sorted list: in front of the first that it stands before.
unfoldable pub insert : (ℕ → ℕ → Bool) → ℕ → List ℕ → List ℕ
insert less i [] = i ∷ []
insert less i (j ∷ js) = cond (less i j) (i ∷ j ∷ js) (j ∷ insert less i js)

-- A list sorted: each of its numbers put in its place.
unfoldable pub sorted_by : (ℕ → ℕ → Bool) → List ℕ → List ℕ
sorted_by less [] = []
sorted_by less (i ∷ is) = insert less i (sorted_by less is)
