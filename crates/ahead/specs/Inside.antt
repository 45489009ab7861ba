-- Where a walk of a cutter may begin: a guess of the highest tip, which any number may be. No answer is defined here.
use Rattle.std.specs.Prelude.{Bool, cond, ◌&&◌, Float}
use Rattle.std.specs.Float.Ieee.{lt, le, neg, of_bits}
use Rattle.std.specs.Float.{binary64}
use Rattle.numbers.specs.Reals.{◌⊕◌, ◌⊖◌, ◌⊗◌, ◌⊘◌, f0, max_of, min_of}
use Rattle.roots.specs.Root.{root_of}
use Rattle.plane.specs.declared.Triangle.{Triangle}
use Rattle.plane.specs.declared.Bounds.{Bounds}
use Rattle.cutters.specs.declared.Edge.{Edge}
use Rattle.cutters.specs.declared.Rest.{Rest}
use Rattle.cutters.specs.Touch.{edge_ab, edge_bc, edge_ca}
use Rattle.bound.specs.Inside.{nearer_of}
use Rattle.bull.specs.declared.Bull.{Bull}
use Rattle.bull.specs.Bull.{bull_profile}
use Rattle.bull.specs.Inside.{base_of}
use Rattle.tops.specs.Inside.{margin, is_start, lies_apart}
use Rattle.ahead.specs.declared.Lean.{Lean}

-- ---- vertices

-- The height b, or that of the tip over a place at the height z, if higher; q is the square of the place's distance from the axis.
unfoldable pub sighted_tip : Bull → Float → Float → Float → Float
sighted_tip k z q b =
    let flat = k.r ⊖ k.rc in
    cond (le z b) b (cond (le q (flat ⊗ flat)) z (max_of b (z ⊖ bull_profile (root_of q) k.r k.rc)))

-- The same of a vertex at (x, y), unless it is not above b or the squares reach `far`.
unfoldable pub sighted_vertex : Bull → Float → Float → Float → Float → Float → Float
sighted_vertex k far x y z b =
    let dx = x ⊖ k.x in
    let dy = y ⊖ k.y in
    let q = dx ⊗ dx ⊕ dy ⊗ dy in
    cond (le z b) b (cond (le far q) b (sighted_tip k z q b))

-- The same of a triangle's three vertices.
unfoldable pub sighted_vertices : Bull → Float → Triangle → Float → Float
sighted_vertices k far t b =
    sighted_vertex k far t.cx t.cy t.cz (sighted_vertex k far t.bx t.by t.bz (sighted_vertex k far t.ax t.ay t.az b))

-- ---- the facet

-- 2^-60, up to which the square of a slope counts as none
abbrev pub level_square : Float
level_square = of_bits binary64 0x3c30_0000_0000_0000

-- What stands upright on a triangle, turned upwards.
unfoldable pub lean_of : Triangle → Lean
lean_of t =
    let bx = t.bx ⊖ t.ax in
    let by = t.by ⊖ t.ay in
    let bz = t.bz ⊖ t.az in
    let cx = t.cx ⊖ t.ax in
    let cy = t.cy ⊖ t.ay in
    let cz = t.cz ⊖ t.az in
    let x = bz ⊗ cy ⊖ cz ⊗ by in
    let y = cz ⊗ bx ⊖ bz ⊗ cx in
    let up = bx ⊗ cy ⊖ cx ⊗ by in
    cond (lt up f0) (record { x = neg x; y = neg y; up = neg up }) (record { x = x; y = y; up = up })

-- Whether the line up the slope through the axis crosses the triangle in plan.
unfoldable pub is_across : Bull → Triangle → Lean → Bool
is_across k t l =
    let a = l.x ⊗ (t.ay ⊖ k.y) ⊖ l.y ⊗ (t.ax ⊖ k.x) in
    let b = l.x ⊗ (t.by ⊖ k.y) ⊖ l.y ⊗ (t.bx ⊖ k.x) in
    let c = l.x ⊗ (t.cy ⊖ k.y) ⊖ l.y ⊗ (t.cx ⊖ k.x) in
    cond (lt f0 a) (le (min_of b c) f0) (le f0 (max_of b c))

-- Where the cutter rests on a plane, seen from its axis: up the slope by as much as the corner's slope is the plane's; on a level one straight below it.
unfoldable pub rest_on : Bull → Lean → Rest
rest_on k l =
    let q = l.x ⊗ l.x ⊕ l.y ⊗ l.y in
    let part = k.rc ⊘ root_of (q ⊕ l.up ⊗ l.up) in
    let f = (k.r ⊖ k.rc ⊕ part ⊗ root_of q) ⊘ root_of q in
    cond (le q (level_square ⊗ (l.up ⊗ l.up))) (record { x = f0; y = f0; drop = f0 })
    (record { x = f ⊗ l.x; y = f ⊗ l.y; drop = k.rc ⊖ part ⊗ l.up })

-- The height b, or that of the tip where the cutter rests at p, if that place is on the triangle and the tip higher.
unfoldable pub sighted_rest : Bull → Triangle → Lean → Rest → Float → Float
sighted_rest k t l p b =
    let bx = t.bx ⊖ t.ax in
    let by = t.by ⊖ t.ay in
    let cx = t.cx ⊖ t.ax in
    let cy = t.cy ⊖ t.ay in
    let det = bx ⊗ cy ⊖ cx ⊗ by in
    let dx = p.x ⊖ (t.ax ⊖ k.x) in
    let dy = p.y ⊖ (t.ay ⊖ k.y) in
    let v = dx ⊗ cy ⊖ cx ⊗ dy in
    let w = bx ⊗ dy ⊖ dx ⊗ by in
    let u = det ⊖ v ⊖ w in
    cond (lt f0 (min_of (u ⊗ det) (min_of (v ⊗ det) (w ⊗ det)))) (max_of b (t.az ⊕ (l.x ⊗ dx ⊕ l.y ⊗ dy) ⊘ l.up ⊖ p.drop)) b

unfoldable pub sighted_facet : Bull → Triangle → Lean → Float → Float
sighted_facet k t l b = cond (is_across k t l) (sighted_rest k t l (rest_on k l) b) b

-- ---- the edges

-- The height b, or that of the tip over the edge's place nearest to the axis, if higher; none where that is an end.
unfoldable pub sighted_edge : Bull → Float → Edge → Float → Float
sighted_edge k far e b =
    let ex = e.bx ⊖ e.ax in
    let ey = e.by ⊖ e.ay in
    let wx = k.x ⊖ e.ax in
    let wy = k.y ⊖ e.ay in
    let square = ex ⊗ ex ⊕ ey ⊗ ey in
    let along = ex ⊗ wx ⊕ ey ⊗ wy in
    let off = ex ⊗ wy ⊖ ey ⊗ wx in
    cond (le (max_of e.az e.bz) b) b
    (cond (le along f0) b
    (cond (le square along) b
    (cond (le (far ⊗ square) (off ⊗ off)) b (sighted_tip k (e.az ⊕ along ⊘ square ⊗ (e.bz ⊖ e.az)) (off ⊗ off ⊘ square) b))))

unfoldable pub sighted_edges : Bull → Float → Triangle → Float → Float
sighted_edges k far t b = sighted_edge k far (edge_ca t) (sighted_edge k far (edge_bc t) (sighted_edge k far (edge_ab t) b))

-- ---- all of it

-- Whether the squares of a box do not reach `far`.
unfoldable pub is_under : Bull → Float → Bounds → Bool
is_under k far x =
    let u = nearer_of (x.low_x ⊖ k.x) (x.high_x ⊖ k.x) in
    let v = nearer_of (x.low_y ⊖ k.y) (x.high_y ⊖ k.y) in
    lt (u ⊗ u ⊕ v ⊗ v) far

-- 11/8: a triangle is large where the two sides of its box make 8/11 of the radius or more.
abbrev pub large_sides : Float
large_sides = of_bits binary64 0x3ff6_0000_0000_0000

-- Whether a triangle is large, and its box under the cutter.
unfoldable pub is_large : Bull → Float → Bounds → Bool
is_large k far x = le k.r (large_sides ⊗ (x.high_x ⊖ x.low_x ⊕ (x.high_y ⊖ x.low_y))) && is_under k far x

unfoldable pub sighted_more : Bull → Float → Triangle → Float → Float
sighted_more k far t b = sighted_edges k far t (sighted_facet k t (lean_of t) b)

-- The vertices, and of a triangle with a large box x the facet and the edges, unless it lies under what was found.
unfoldable pub sighted_of : Bull → Float → Triangle → Bounds → Float → Float
sighted_of k far t x b =
    let z = sighted_vertices k far t b in
    cond (le x.top z) z (cond (is_large k far x) (sighted_more k far t z) z)

-- ---- one contact by itself

-- Whether the candidates of a triangle may begin at `from`: each corner lies above it, or so low that no tip over it is above.
unfoldable pub begins_at : Triangle → Bull → Float → Bool
begins_at t k from = is_start from && (le f0 (base_of k) && lies_apart (from ⊖ margin) from t)
