-- What bounds a search; no answer is defined here.
use Rattle.std.specs.Prelude.{true, false, cond, ◌≡◌, T, Float}
use Rattle.std.specs.Float.{binary64}
use Rattle.std.specs.Float.Ieee.{lt, le, fits}
use Rattle.numbers.specs.Reals.{◌⊕◌, ◌⊗◌, f0}
use Rattle.roots.specs.Hypot.{hypot_of}

-- Of the numbers from low to high the one that is nearest to 0: 0 itself where it lies among them.
unfoldable pub nearer_of : Float → Float → Float
nearer_of low high = cond (lt f0 low) low (cond (lt high f0) high f0)

-- A sum of two squares that is at most `flat` belongs to a distance from 0 to w.
pub record Within (w flat : Float) : Type 0 where
  pub low : (p q : Float) → le (p ⊗ p ⊕ q ⊗ q) flat ≡ true → T (le f0 (hypot_of p q))
  pub near : (p q : Float) → le (p ⊗ p ⊕ q ⊗ q) flat ≡ true → T (le (hypot_of p q) w)

-- A sum of two f64s' squares that is at least `far` belongs to no distance of at most w.
pub record Beyond (w far : Float) : Type 0 where
  pub out : (p q : Float) → T (fits binary64 p) → T (fits binary64 q) → le far (p ⊗ p ⊕ q ⊗ q) ≡ true → le (hypot_of p q) w ≡ false
