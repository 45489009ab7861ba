-- Document 01, the row of `max_in_capsule`: the points of a triangle where its height can peak in the capsule. The height is linear, so it peaks at a corner,
-- where an edge crosses the capsule's boundary, or inside the triangle at an extreme point of the capsule. In the order of the Rust. Each carries what it
-- touches: a corner its number, a crossing its edge's, and all inner points the face.
use Rattle.std.specs.Prelude.{Bool, cond, ◌&&◌, List, [], ◌∷◌, ◌++◌, ℕ, Float, None, Option, Some}
use Rattle.std.specs.Float.Ieee.{lt, le, ne, neg}
use Rattle.numbers.specs.Reals.{◌⊕◌, ◌⊖◌, ◌⊗◌, ◌⊘◌, f0, f1, f2, f4, minus1, tiny, minus_slack, past_one, clamp_unit, abs_of}
use Rattle.roots.specs.Root.{root_of}
use Rattle.roots.specs.Hypot.{hypot_of}
use Rattle.plane.specs.declared.Triangle.{Triangle}
use Rattle.plane.specs.declared.Weights.{Weights}
use Rattle.plane.specs.declared.Contact.{Contact}
use Rattle.plane.specs.Contacts.{corner, edge, face}
use Rattle.plane.specs.Distance.{bary_of, at_least}
use Rattle.capsule.specs.declared.Capsule.{Capsule}
use Rattle.capsule.specs.declared.Place.{Place}
use Rattle.capsule.specs.declared.Point.{Point}
use Rattle.capsule.specs.declared.Edge.{Edge}
use Rattle.capsule.specs.declared.Rise.{Rise}
use Rattle.capsule.specs.Region.{capsule_of, offered_all}

-- what f gives for each of a list, one after the other
unfoldable pub each : {A : Type 0} → (A → List Point) → List A → List Point
each f [] = []
each f (x ∷ xs) = f x ++ each f xs

-- the corners
unfoldable pub corner_a : Triangle → Point
corner_a t = record { x = t.ax; y = t.ay; z = t.az; touch = corner 0 }

unfoldable pub corner_b : Triangle → Point
corner_b t = record { x = t.bx; y = t.by; z = t.bz; touch = corner 1 }

unfoldable pub corner_c : Triangle → Point
corner_c t = record { x = t.cx; y = t.cy; z = t.cz; touch = corner 2 }

unfoldable pub corners : Triangle → List Point
corners t = corner_a t ∷ corner_b t ∷ corner_c t ∷ []

-- edge k, from a to b
unfoldable pub edge_of : ℕ → Point → Point → Edge
edge_of k a b =
    record { x = a.x; y = a.y; z = a.z; dx = b.x ⊖ a.x; dy = b.y ⊖ a.y; dz = b.z ⊖ a.z; which = k }

-- the edges a-b, b-c and c-a
unfoldable pub edges : Triangle → List Edge
edges t = edge_of 0 (corner_a t) (corner_b t) ∷ edge_of 1 (corner_b t) (corner_c t) ∷ edge_of 2 (corner_c t) (corner_a t) ∷ []

-- the ends p and q of the segment
unfoldable pub ends : Capsule → List Place
ends k = record { x = k.px; y = k.py } ∷ record { x = k.qx; y = k.qy } ∷ []

-- whether t lies on an edge: from 0 to 1, and a slack of 1e-12
unfoldable pub on_edge : Float → Bool
on_edge t = le minus_slack t && le t past_one

-- the point at s along an edge
unfoldable pub point_on : Edge → Float → Point
point_on e s = record { x = e.x ⊕ s ⊗ e.dx; y = e.y ⊕ s ⊗ e.dy; z = e.z ⊕ s ⊗ e.dz; touch = edge e.which }

-- the same if t lies on the edge, with the slack cut off
unfoldable pub reached : Edge → Float → List Point
reached e t = cond (on_edge t) (point_on e (clamp_unit t) ∷ []) []

-- the squared length of an edge, seen from above
unfoldable pub squared : Edge → Float
squared e = e.dx ⊗ e.dx ⊕ e.dy ⊗ e.dy

-- the two roots t of an equation ee t^2 + b t + .. = 0 whose discriminant has the root s
unfoldable pub solved : Edge → Float → Float → List Point
solved e b s = reached e ((neg b ⊖ s) ⊘ (f2 ⊗ squared e)) ++ reached e ((neg b ⊕ s) ⊘ (f2 ⊗ squared e))

-- where an edge crosses the circle around c: |a + t e - c|^2 = r^2
unfoldable pub circled : Capsule → Edge → Place → List Point
circled k e c =
    let fx = e.x ⊖ c.x in
    let fy = e.y ⊖ c.y in
    let bq = f2 ⊗ (fx ⊗ e.dx ⊕ fy ⊗ e.dy) in
    let cq = fx ⊗ fx ⊕ fy ⊗ fy ⊖ k.r ⊗ k.r in
    let disc = bq ⊗ bq ⊖ f4 ⊗ squared e ⊗ cq in
    cond (le f0 disc) (solved e bq (root_of disc)) []

-- where an edge crosses a straight side, on the right (-1) or the left (1) of the way from p to q: (a + t e - p - side r n) . n = 0
unfoldable pub sided : Capsule → Edge → Float → List Point
sided k e side =
    let den = e.dx ⊗ k.nx ⊕ e.dy ⊗ k.ny in
    let off = side ⊗ k.r ⊖ ((e.x ⊖ k.px) ⊗ k.nx ⊕ (e.y ⊖ k.py) ⊗ k.ny) in
    cond (ne den f0) (reached e (off ⊘ den)) []

-- the two sides, right and left
unfoldable pub sides : List Float
sides = minus1 ∷ f1 ∷ []

-- where an edge crosses the capsule's boundary: the circles around p and q, then the straight sides
unfoldable pub crossed : Capsule → Edge → List Point
crossed k e =
    cond (lt f0 (squared e)) (each (circled k e) (ends k) ++ cond (lt f0 k.len) (each (sided k e) sides) []) []

-- the determinant of a triangle: 0 if it stands upright
unfoldable pub determinant_of : Triangle → Float
determinant_of t = (t.bx ⊖ t.ax) ⊗ (t.cy ⊖ t.ay) ⊖ (t.cx ⊖ t.ax) ⊗ (t.by ⊖ t.ay)

-- how a triangle rises: its slope g, and r in the direction of the gradient
unfoldable pub rise_of : Triangle → Float → Rise
rise_of t r =
    let nz = determinant_of t in
    let gx = ((t.bz ⊖ t.az) ⊗ (t.cy ⊖ t.ay) ⊖ (t.cz ⊖ t.az) ⊗ (t.by ⊖ t.ay)) ⊘ nz in
    let gy = ((t.bx ⊖ t.ax) ⊗ (t.cz ⊖ t.az) ⊖ (t.cx ⊖ t.ax) ⊗ (t.bz ⊖ t.az)) ⊘ nz in
    let g = hypot_of gx gy in
    record { g = g; x = r ⊗ gx ⊘ g; y = r ⊗ gy ⊘ g }

-- the points of the end circles in the direction of the gradient
unfoldable pub tangents : Capsule → Rise → List Place
tangents k h =
    record { x = k.px ⊕ h.x; y = k.py ⊕ h.y } ∷ record { x = k.qx ⊕ h.x; y = k.qy ⊕ h.y } ∷ []

-- where the straight sides end: at p and at q, on the right and on the left
unfoldable pub flank : Capsule → Float → Float → Float → Place
flank k x y side = record { x = x ⊕ side ⊗ k.r ⊗ k.nx; y = y ⊕ side ⊗ k.r ⊗ k.ny }

unfoldable pub flanks : Capsule → List Place
flanks k =
    flank k k.px k.py minus1 ∷
    flank k k.px k.py f1 ∷
    flank k k.qx k.qy minus1 ∷
    flank k k.qx k.qy f1 ∷
    []

-- the extreme points of the capsule: the centres, the tangent points if the triangle is not level, and the side ends
unfoldable pub places : Capsule → Rise → List Place
places k h = ends k ++ (cond (lt f0 h.g) (tangents k h) [] ++ flanks k)

-- the point of a triangle at a place of given weights
unfoldable pub point_over : Triangle → Place → Weights → Point
point_over t p w = record { x = p.x; y = p.y; z = w.u ⊗ t.az ⊕ w.v ⊗ t.bz ⊕ w.w ⊗ t.cz; touch = face }

-- the same if no weight is below -1e-12
unfoldable pub raised : Triangle → Place → Option Weights → List Point
raised t p None = []
raised t p (Some w) = cond (at_least w minus_slack) (point_over t p w ∷ []) []

-- the point of a triangle over a place, if it lies on the triangle
unfoldable pub plane_over : Triangle → Place → List Point
plane_over t p = raised t p (bary_of t p.x p.y)

-- the inner points of a triangle that does not stand upright
unfoldable pub inner : Capsule → Triangle → List Point
inner k t = cond (lt tiny (abs_of (determinant_of t))) (each (plane_over t) (places k (rise_of t k.r))) []

-- all of them
unfoldable pub candidates : Capsule → Triangle → List Point
candidates k t = corners t ++ (each (crossed k) (edges t) ++ inner k t)

-- the highest point of a triangle in a capsule: of the candidates in it, the highest
unfoldable pub highest_in : Capsule → Triangle → Option Contact
highest_in k t = offered_all k None (candidates k t)

-- the highest point of a triangle in the capsule of radius r around p-q
unfoldable pub max_in_capsule : Triangle → Float → Float → Float → Float → Float → Float → Option Contact
max_in_capsule t px py qx qy r eps = highest_in (capsule_of px py qx qy r eps) t
