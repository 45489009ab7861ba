-- Numbers of a file in a row: f k is number k.
use Rattle.std.specs.Prelude.{Bool, true, false, cond, ◌&&◌, List, [], ◌∷◌, ℕ, zero, suc, ◌+◌, Float, Option, None, Some}
use Rattle.std.specs.Float.{nan, inf, fin}

-- neither an infinity nor a NaN
unfoldable pub finite : Float → Bool
finite nan = false
finite (inf s) = false
finite (fin s m e) = true

-- all numbers of a table are
unfoldable pub all_finite : List Float → Bool
all_finite [] = true
all_finite (x ∷ xs) = finite x && all_finite xs

-- c numbers from number k on
unfoldable pub row : {A : Type 0} → (ℕ → A) → ℕ → ℕ → List A
row f k zero = []
row f k (suc c) = f k ∷ row f (k + 1) c

-- the first of c numbers from number k on that is not finite
unfoldable pub first_bad : (ℕ → Float) → ℕ → ℕ → Option ℕ
first_bad f k zero = None
first_bad f k (suc c) = cond (finite (f k)) (first_bad f (k + 1) c) (Some k)

unfoldable pub somewhere : Option ℕ → Bool
somewhere None = false
somewhere (Some k) = true
