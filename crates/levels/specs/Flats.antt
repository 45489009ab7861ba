-- Document 01, "Levels and runs": flat triangles.
use Rattle.plane.specs.declared.Weights.{Weights}
use Rattle.std.specs.Prelude.{Bool, true, false, cond, ◌&&◌, List, [], ◌∷◌, ◌++◌, ℕ, zero, suc, Float, None, Option, Some}
use Rattle.std.specs.Float.Ieee.{lt, le}
use Rattle.numbers.specs.Reals.{◌⊖◌, abs_of}
use Rattle.plane.specs.Mesh.{triangle_of}
use Rattle.plane.specs.Distance.{bary_of}
use Rattle.plane.specs.declared.Triangle.{Triangle}

-- Whether z lies within the tolerance of z0.
unfoldable pub near_to : Float → Float → Float → Bool
near_to tolerance z0 z = le (abs_of (z ⊖ z0)) tolerance

-- All three z within the tolerance of the first vertex's z.
unfoldable pub even_of : Triangle → Float → Bool
even_of t tolerance = near_to tolerance t.az t.az && (near_to tolerance t.az t.bz && near_to tolerance t.az t.cz)

-- Whether `bary` answers.
unfoldable pub answers : Option Weights → Bool
answers None = false
answers (Some w) = true

-- A flat triangle: even, `bary` at the first vertex answers, and z is above `least`, which is floor + level tolerance.
unfoldable pub is_flat : Triangle → Float → Float → Bool
is_flat t tolerance least = even_of t tolerance && (answers (bary_of t t.ax t.ay) && lt least t.az)

-- The flat ones of a mesh's first n triangles, in mesh order.
unfoldable pub flats_of : List Float → Float → Float → ℕ → List ℕ
flats_of mesh tolerance least zero = []
flats_of mesh tolerance least (suc n) =
    flats_of mesh tolerance least n ++ cond (is_flat (triangle_of mesh n) tolerance least) (n ∷ []) []
