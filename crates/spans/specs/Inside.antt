-- What the parts of the builder rely on once refusal 4 has passed: no number is a NaN, so that a plain comparison is a maximum or a minimum.
use Rattle.std.specs.Prelude.{◌≡◌, ℕ, ◌<◌, Bool, true, false, not, T, List, length, is_nan, Float}
use Rattle.std.specs.Float.{nan, inf, fin}
use Rattle.std.specs.Float.Ieee.{le}
use Rattle.numbers.specs.Reals.{◌⊖◌, ◌⊘◌, f0, num}
use Rattle.plane.specs.declared.Triangle.{Triangle}
use Rattle.plane.specs.Ranges.{is_coordinate}
use Rattle.spans.specs.Axis.{cell_at}
use Rattle.spans.specs.declared.Extent.{Extent}

-- x is a coordinate.
abbrev pub Good : Float → Type 0
Good x = is_coordinate x ≡ true

-- Every number of a mesh is a coordinate.
abbrev pub AllGood : List Float → Type 0
AllGood mesh = (k : ℕ) → k < length mesh → Good (num mesh k)

-- Every number of a triangle is one.
pub record Corners (t : Triangle) : Type 0 where
  pub ax : Good t.ax
  pub ay : Good t.ay
  pub az : Good t.az
  pub bx : Good t.bx
  pub by : Good t.by
  pub bz : Good t.bz
  pub cx : Good t.cx
  pub cy : Good t.cy
  pub cz : Good t.cz

-- Extremes, of which none is a NaN.
pub record Ends (e : Extent) : Type 0 where
  pub left : is_nan e.left ≡ false
  pub bottom : is_nan e.bottom ≡ false
  pub right : is_nan e.right ≡ false
  pub top : is_nan e.top ≡ false

-- No NaN, and its sign is plus.
unfoldable pub not_negative : Float → Bool
not_negative nan = false
not_negative (inf s) = not s
not_negative (fin s m e) = not s

-- x is not below lo, and its cell is one of the first 65,536.
pub record Near (lo size x : Float) : Type 0 where
  pub above : T (le f0 ((x ⊖ lo) ⊘ size))
  pub few : cell_at lo size x < 65536
