-- When a chord surely stays out of reach of a triangle. No answer is defined here: where this says so, no search finds the triangle within reach, which
-- proofs/Never shows; where it does not, the search decides.
use Rattle.std.specs.Prelude.{Bool, true, cond, ◌&&◌, ◌≡◌, T, Float}
use Rattle.std.specs.Float.{binary64}
use Rattle.std.specs.Float.Ieee.{of_bits, lt, fits}
use Rattle.numbers.specs.Reals.{◌⊕◌, ◌⊖◌, ◌⊗◌, f0, f1, tiny, min_of, max_of, abs_of}
use Rattle.roots.specs.Root.{root_of}
use Rattle.plane.specs.declared.Triangle.{Triangle}
use Rattle.cutters.specs.declared.Rest.{Rest}
use Rattle.cutters.specs.Touch.{along}
use Rattle.bound.specs.Inside.{nearer_of}
use Rattle.apart.specs.Inside.{lowest_on, highest_on, Fine}
use Rattle.reach.specs.declared.Chord.{Chord}
use Rattle.bull_pass.specs.declared.Range.{Range}
use Rattle.bull_pass.specs.Inside.{axis_fair, side_tame, misses_of}
use Rattle.afar.specs.declared.Side.{Side}

-- The numbers between which all points of the edges lie, as they are computed, on a coordinate whose corners are a, b and c.
unfoldable pub edges_of : Float → Float → Float → Range
edges_of a b c = record { low = lowest_on a b c; high = highest_on a b c }

-- One coordinate, on which the chord goes from p to q, between lo and hi.
unfoldable pub side_of : Range → Float → Float → Float → Float → Side
side_of e p q lo hi =
    record { low = e.low; high = e.high; first = min_of (along p q lo) (along p q hi); last = max_of (along p q lo) (along p q hi) }

-- The shortest way from the chord's box to the triangle's on one coordinate, and the square of the shortest way in plan.
unfoldable pub way_of : Side → Float
way_of s = nearer_of (s.low ⊖ s.last) (s.high ⊖ s.first)

unfoldable pub square_of : Side → Side → Float
square_of x y = way_of x ⊗ way_of x ⊕ way_of y ⊗ way_of y

-- The two corners of the chord's box, as places.
unfoldable pub first_of : Side → Side → Rest
first_of x y = record { x = x.first; y = y.first; drop = f0 }

unfoldable pub last_of : Side → Side → Rest
last_of x y = record { x = x.last; y = y.last; drop = f0 }

-- A triangle in which no place has weights, as one that stands upright.
unfoldable pub upright_of : Triangle → Bool
upright_of t = lt (abs_of ((t.bx ⊖ t.ax) ⊗ (t.cy ⊖ t.ay) ⊖ (t.cx ⊖ t.ax) ⊗ (t.by ⊖ t.ay))) tiny

-- No point of the chord's box counts as inside the triangle.
unfoldable pub off_of : Triangle → Side → Side → Bool
off_of t x y = cond (upright_of t) true (misses_of t (first_of x y) (last_of x y))

-- Numbers of ordinary size, on one coordinate.
pub record Fair (a b c p q : Float) (s : Side) : Type 0 where
  pub fine : Fine a b c p q
  pub tame : side_tame s.low s.high s.first s.last ≡ true
  pub fit_a : T (fits binary64 a)
  pub fit_b : T (fits binary64 b)
  pub fit_c : T (fits binary64 c)
  pub fit_p : T (fits binary64 p)

-- No point of the box counts as inside, and all numbers are of ordinary size.
pub record Clear (t : Triangle) (m : Chord) (lo hi : Float) (x y : Side) : Type 0 where
  pub off : off_of t x y ≡ true
  pub axes : (axis_fair m.ax m.bx lo hi && axis_fair m.ay m.by lo hi) ≡ true
  pub fair_x : Fair t.ax t.bx t.cx m.ax m.bx x
  pub fair_y : Fair t.ay t.by t.cy m.ay m.by y

-- The boxes of the edges and of the chord from lo to hi lie more than r apart, and that.
pub record Off (t : Triangle) (m : Chord) (r : Float) (x y : Range) (lo hi : Float) : Type 0 where
  pub far : lt r (root_of (square_of (side_of x m.ax m.bx lo hi) (side_of y m.ay m.by lo hi))) ≡ true
  pub clear : Clear t m lo hi (side_of x m.ax m.bx lo hi) (side_of y m.ay m.by lo hi)

-- 1/4, 1/2 and 3/4
abbrev pub quarter : Float
quarter = of_bits binary64 0x3fd0_0000_0000_0000

abbrev pub half : Float
half = of_bits binary64 0x3fe0_0000_0000_0000

abbrev pub three_quarters : Float
three_quarters = of_bits binary64 0x3fe8_0000_0000_0000

-- The same of each quarter of the chord.
pub record Quarters (t : Triangle) (m : Chord) (r : Float) (x y : Range) : Type 0 where
  pub one : Off t m r x y f0 quarter
  pub two : Off t m r x y quarter half
  pub three : Off t m r x y half three_quarters
  pub four : Off t m r x y three_quarters f1
