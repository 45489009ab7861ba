-- Document 01, the row of `dist2_to_segment`, `bary` and `distance_xy`: distances seen from above.
use Rattle.std.specs.Prelude.{Bool, false, cond, ◌&&◌, ◌≡◌, refl, Float, None, Option, Some}
use Rattle.std.specs.Float.{inf, binary64}
use Rattle.std.specs.Float.Ieee.{of_bits, lt, le}
use Rattle.numbers.specs.Reals.{◌⊕◌, ◌⊖◌, ◌⊗◌, ◌⊘◌, f0, f1, tiny, clamp_unit, abs_of, min_of}
use Rattle.roots.specs.Root.{root_of}
use Rattle.plane.specs.declared.Triangle.{Triangle}
use Rattle.plane.specs.declared.Weights.{Weights}

-- where along the segment p-q the point nearest to x lies, from 0 to 1; 0 on a segment of no length
unfoldable pub nearest_t : Float → Float → Float → Float → Float → Float → Float
nearest_t x0 x1 p0 p1 q0 q1 =
    let d0 = q0 ⊖ p0 in
    let d1 = q1 ⊖ p1 in
    let l2 = d0 ⊗ d0 ⊕ d1 ⊗ d1 in
    cond (lt f0 l2) (clamp_unit (((x0 ⊖ p0) ⊗ d0 ⊕ (x1 ⊖ p1) ⊗ d1) ⊘ l2)) f0

-- the squared distance of x from the segment p-q
unfoldable pub dist2_to_segment : Float → Float → Float → Float → Float → Float → Float
dist2_to_segment x0 x1 p0 p1 q0 q1 =
    let t = nearest_t x0 x1 p0 p1 q0 q1 in
    let c0 = p0 ⊕ t ⊗ (q0 ⊖ p0) ⊖ x0 in
    let c1 = p1 ⊕ t ⊗ (q1 ⊖ p1) ⊖ x1 in
    c0 ⊗ c0 ⊕ c1 ⊗ c1

-- the weights of (x, y) in a triangle: (x, y) is u times a, v times b and w times c; none when the determinant's magnitude is below 1e-300
unfoldable pub bary_of : Triangle → Float → Float → Option Weights
bary_of t x y =
    let bx = t.bx ⊖ t.ax in
    let by = t.by ⊖ t.ay in
    let cx = t.cx ⊖ t.ax in
    let cy = t.cy ⊖ t.ay in
    let dx = x ⊖ t.ax in
    let dy = y ⊖ t.ay in
    let det = bx ⊗ cy ⊖ cx ⊗ by in
    let l1 = (dx ⊗ cy ⊖ cx ⊗ dy) ⊘ det in
    let l2 = (bx ⊗ dy ⊖ dx ⊗ by) ⊘ det in
    cond (lt (abs_of det) tiny) None (Some (record { u = f1 ⊖ l1 ⊖ l2; v = l1; w = l2 }))

-- whether each weight is at least `least`
unfoldable pub at_least : Weights → Float → Bool
at_least p least = le least p.u && (le least p.v && le least p.w)

-- whether a place lies on its triangle: it has weights, none below 0
unfoldable pub inside : Option Weights → Bool
inside None = false
inside (Some p) = at_least p f0

-- plus infinity: farther than any edge
abbrev pub farthest : Float
farthest = of_bits binary64 0x7ff0_0000_0000_0000

farthest_is : farthest ≡ inf false
unfolding of_bits
farthest_is = refl

-- the distance of (x, y) from the nearest of the edges a-b, b-c and c-a
unfoldable pub edge_distance : Triangle → Float → Float → Float
edge_distance t x y =
    let ab = min_of farthest (dist2_to_segment x y t.ax t.ay t.bx t.by) in
    let bc = min_of ab (dist2_to_segment x y t.bx t.by t.cx t.cy) in
    let ca = min_of bc (dist2_to_segment x y t.cx t.cy t.ax t.ay) in
    root_of ca

-- the distance of (x, y) from a triangle: 0 inside, else that from its nearest edge
unfoldable pub distance_xy : Triangle → Float → Float → Float
distance_xy t x y = cond (inside (bary_of t x y)) f0 (edge_distance t x y)
