-- What lets a candidate be left out; no answer is defined here.
use Rattle.std.specs.Prelude.{Bool, false, not, eqb, Float, None, Option, Some}
use Rattle.numbers.specs.Reals.{◌⊘◌, f0}
use Rattle.plane.specs.declared.Contact.{Contact}

-- The height that a candidate has to exceed beside c: a candidate that is at most that is not taken. Beside nothing it is a NaN, which no number is at most.
unfoldable pub limit_of : Option Contact → Float
limit_of None = f0 ⊘ f0
limit_of (Some m) = m.height

-- Whether a contact is with a triangle: a best so far touches nothing, kind 0.
unfoldable pub touches_of : Option Contact → Bool
touches_of None = false
touches_of (Some m) = not (eqb m.touch.kind 0)
