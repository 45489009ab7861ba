-- Document 01, rows `bull_contact` and `section_contact`: what the contacts of round cutters share. A round cutter that stands over a triangle rests on a
-- vertex, on an edge or on the facet; each is a candidate, none or a height with its touch, and the candidates are taken in this order.
use Rattle.std.specs.Prelude.{cond, Float, None, Option, Some}
use Rattle.std.specs.Float.Ieee.{lt, le, neg}
use Rattle.numbers.specs.Reals.{◌⊕◌, ◌⊖◌, ◌⊗◌, ◌⊘◌, f0, f1, f2, f4, tiny, minus_slack, max_of, min_of, abs_of}
use Rattle.roots.specs.Root.{root_of}
use Rattle.roots.specs.Hypot.{hypot_of}
use Rattle.plane.specs.declared.Triangle.{Triangle}
use Rattle.plane.specs.declared.Contact.{Contact}
use Rattle.plane.specs.declared.Weights.{Weights}
use Rattle.plane.specs.Contacts.{face, at_height}
use Rattle.plane.specs.Distance.{bary_of, at_least}
use Rattle.cutters.specs.declared.Edge.{Edge}
use Rattle.cutters.specs.declared.Stretch.{Stretch}
use Rattle.cutters.specs.declared.Gradient.{Gradient}
use Rattle.cutters.specs.declared.Rest.{Rest}

-- The three edges, each from one vertex to the next, with its number.
abbrev pub edge_ab : Triangle → Edge
edge_ab t = record { ax = t.ax; ay = t.ay; az = t.az; bx = t.bx; by = t.by; bz = t.bz; which = 0 }

abbrev pub edge_bc : Triangle → Edge
edge_bc t = record { ax = t.bx; ay = t.by; az = t.bz; bx = t.cx; by = t.cy; bz = t.cz; which = 1 }

abbrev pub edge_ca : Triangle → Edge
edge_ca t = record { ax = t.cx; ay = t.cy; az = t.cz; bx = t.ax; by = t.ay; bz = t.az; which = 2 }

-- The coordinate at t between a and b.
abbrev pub along : Float → Float → Float → Float
along a b t = a ⊕ t ⊗ (b ⊖ a)

-- The distance in plan, from the axis (x, y), of the edge's point at t.
unfoldable pub distance_at : Edge → Float → Float → Float → Float
distance_at e x y t = hypot_of (along e.ax e.bx t ⊖ x) (along e.ay e.by t ⊖ y)

-- An edge's length in plan, squared.
abbrev pub length2 : Edge → Float
length2 e = (e.bx ⊖ e.ax) ⊗ (e.bx ⊖ e.ax) ⊕ (e.by ⊖ e.ay) ⊗ (e.by ⊖ e.ay)

-- The stretch from a to b.
abbrev pub from_to : Float → Float → Option Stretch
from_to a b = Some (record { from = a; to = b })

-- Where qa t² + qb t + qc is not above 0, between 0 and 1; root is that of the discriminant.
unfoldable pub crossed_of : Float → Float → Float → Option Stretch
crossed_of qa qb root =
    let t0 = max_of ((neg qb ⊖ root) ⊘ (f2 ⊗ qa)) f0 in
    let t1 = min_of ((neg qb ⊕ root) ⊘ (f2 ⊗ qa)) f1 in
    cond (lt t1 t0) None (from_to t0 t1)

-- The stretch of an edge within r of the axis (x, y): none on an edge of no length in plan, and none where the discriminant is below 0.
unfoldable pub reached_of : Edge → Float → Float → Float → Option Stretch
reached_of e x y r =
    let ex = e.bx ⊖ e.ax in
    let ey = e.by ⊖ e.ay in
    let wx = e.ax ⊖ x in
    let wy = e.ay ⊖ y in
    let qa = length2 e in
    let qb = f2 ⊗ (ex ⊗ wx ⊕ ey ⊗ wy) in
    let qc = wx ⊗ wx ⊕ wy ⊗ wy ⊖ r ⊗ r in
    let disc = qb ⊗ qb ⊖ f4 ⊗ qa ⊗ qc in
    cond (le qa f0) None (cond (lt disc f0) None (crossed_of qa qb (root_of disc)))

-- The plane's slopes in x and y and the steepest slope, from the determinant.
unfoldable pub gradient_of : Triangle → Float → Gradient
gradient_of t det =
    let bx = t.bx ⊖ t.ax in
    let by = t.by ⊖ t.ay in
    let bz = t.bz ⊖ t.az in
    let cx = t.cx ⊖ t.ax in
    let cy = t.cy ⊖ t.ay in
    let cz = t.cz ⊖ t.az in
    let gx = (bz ⊗ cy ⊖ cz ⊗ by) ⊘ det in
    let gy = (cz ⊗ bx ⊖ bz ⊗ cx) ⊘ det in
    record { x = gx; y = gy; steep = hypot_of gx gy }

-- Which way a triangle leans: none when the determinant's magnitude is not above 1e-300.
unfoldable pub facing_of : Triangle → Option Gradient
facing_of t =
    let bx = t.bx ⊖ t.ax in
    let by = t.by ⊖ t.ay in
    let cx = t.cx ⊖ t.ax in
    let cy = t.cy ⊖ t.ay in
    let det = bx ⊗ cy ⊖ cx ⊗ by in
    cond (lt tiny (abs_of det)) (Some (gradient_of t det)) None

-- The place at `reach` from the axis (x, y) up the slope, where the cutter lies `drop` over its tip.
unfoldable pub rest_of : Gradient → Float → Float → Float → Float → Rest
rest_of g x y reach drop =
    record { x = x ⊕ g.x ⊘ g.steep ⊗ reach; y = y ⊕ g.y ⊘ g.steep ⊗ reach; drop = drop }

-- The tip's height where the cutter rests on the facet, at a place of the weights p: none where that place is not on the triangle, to within 1e-12.
unfoldable pub weighed_of : Triangle → Float → Weights → Option Contact
weighed_of t drop p =
    cond (at_least p minus_slack) (at_height (p.u ⊗ t.az ⊕ p.v ⊗ t.bz ⊕ p.w ⊗ t.cz ⊖ drop) face) None

unfoldable pub spot_height : Triangle → Float → Option Weights → Option Contact
spot_height t drop None = None
spot_height t drop (Some p) = weighed_of t drop p

unfoldable pub facet_height : Triangle → Rest → Option Contact
facet_height t p = spot_height t p.drop (bary_of t p.x p.y)
