-- How the distances are compared by their squares; no answer is defined here.
use Rattle.std.specs.Prelude.{true, false, cond, ◌≡◌, T, Float}
use Rattle.std.specs.Float.{binary64}
use Rattle.std.specs.Float.Ieee.{le, fits}
use Rattle.numbers.specs.Reals.{f0, min_of}
use Rattle.roots.specs.Root.{root_of}
use Rattle.plane.specs.declared.Triangle.{Triangle}
use Rattle.plane.specs.Distance.{farthest, dist2_to_segment, bary_of, inside}
use Rattle.golden.specs.declared.Golden.{Golden}
use Rattle.cutters.specs.Touch.{along}
use Rattle.reach.specs.declared.Chord.{Chord}
use Rattle.reach.specs.declared.Limit.{Limit}

-- The square of the distance from the nearest edge: plane's edge_distance is its root.
unfoldable pub edge_square : Triangle → Float → Float → Float
edge_square t x y =
    let ab = min_of farthest (dist2_to_segment x y t.ax t.ay t.bx t.by) in
    let bc = min_of ab (dist2_to_segment x y t.bx t.by t.cx t.cy) in
    min_of bc (dist2_to_segment x y t.cx t.cy t.ax t.ay)

-- That of the distance from the triangle: 0 inside.
unfoldable pub square_xy : Triangle → Float → Float → Float
square_xy t x y = cond (inside (bary_of t x y)) f0 (edge_square t x y)

-- The same from the chord's point at s.
unfoldable pub square_at : Triangle → Chord → Float → Float
square_at t m s = square_xy t (along m.ax m.bx s) (along m.ay m.by s)

-- A bracket with the roots of its values.
unfoldable pub rooted : Golden → Golden
rooted g = record { a = g.a; b = g.b; x1 = g.x1; x2 = g.x2; f1 = root_of g.f1; f2 = root_of g.f2 }

-- A square up to `flat` is that of a distance within r, one from `far` on is not.
unfoldable pub Flat : Float → Float → Type 0
Flat r flat = (q : Float) → T (fits binary64 q) → le f0 q ≡ true → le q flat ≡ true → le (root_of q) r ≡ true

unfoldable pub Far : Float → Float → Type 0
Far r far = (q : Float) → T (fits binary64 q) → le far q ≡ true → le (root_of q) r ≡ false

pub record Settles (k : Limit) : Type 0 where
  pub near : Flat k.r k.flat
  pub out : Far k.r k.far
