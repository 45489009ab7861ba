-- Document 01, rows `bull_profile`, `bull_contact` and `bull_contact_above`: a bull-nose cutter and its contact with one triangle. The height of the cutter's
-- tip is concave along an edge and over the facet, so it is largest at a vertex, at one place of an edge, or where the corner's slope is the facet's.
use Rattle.std.specs.Prelude.{Bool, cond, ℕ, Float, None, Option, Some}
use Rattle.std.specs.Float.Ieee.{lt, le}
use Rattle.numbers.specs.Reals.{◌⊕◌, ◌⊖◌, ◌⊗◌, ◌⊘◌, f0, f1, no_slope, max_of, min_of}
use Rattle.roots.specs.Root.{root_of}
use Rattle.roots.specs.Hypot.{hypot_of}
use Rattle.plane.specs.declared.Triangle.{Triangle}
use Rattle.plane.specs.declared.Contact.{Contact}
use Rattle.plane.specs.Contacts.{corner, edge, at_height}
use Rattle.golden.specs.Search.{golden_max}
use Rattle.golden.specs.Upper.{minus_infinity}
use Rattle.cutters.specs.declared.Edge.{Edge}
use Rattle.cutters.specs.declared.Stretch.{Stretch}
use Rattle.cutters.specs.declared.Gradient.{Gradient}
use Rattle.cutters.specs.declared.Rest.{Rest}
use Rattle.above.specs.Above.{offer_of}
use Rattle.cutters.specs.Touch.{edge_ab, edge_bc, edge_ca, along, distance_at, reached_of, facing_of, rest_of, facet_height}
use Rattle.bull.specs.declared.Bull.{Bull}

-- The cutter's height over its tip at the distance d from its axis: flat to r - rc, then the corner's arc.
unfoldable pub bull_profile : Float → Float → Float → Float
bull_profile d r rc = let s = d ⊖ (r ⊖ rc) in cond (le s f0) f0 (rc ⊖ root_of (max_of (rc ⊗ rc ⊖ s ⊗ s) f0))

-- Corner n at the height z and the distance d from the axis: none beyond r.
unfoldable pub bull_over : Bull → ℕ → Float → Float → Option Contact
bull_over k n z d = cond (le d k.r) (at_height (z ⊖ bull_profile d k.r k.rc) (corner n)) None

-- The candidate of vertex n.
unfoldable pub bull_vertex : Bull → ℕ → Float → Float → Float → Option Contact
bull_vertex k n x y z = bull_over k n z (hypot_of (x ⊖ k.x) (y ⊖ k.y))

-- The vertices' candidates, in their order.
unfoldable pub bull_vertices : Bull → Triangle → Option Contact
bull_vertices k t =
    let a = bull_vertex k 0 t.ax t.ay t.az in
    let b = bull_vertex k 1 t.bx t.by t.bz in
    let c = bull_vertex k 2 t.cx t.cy t.cz in
    offer_of (offer_of (offer_of None a) b) c

-- The tip's height over the edge's point at t.
unfoldable pub bull_at : Bull → Edge → Float → Float
bull_at k e t = along e.az e.bz t ⊖ bull_profile (min_of (distance_at e k.x k.y t) k.r) k.r k.rc

-- The best of the edge's stretch under the cutter: a search of 40 steps. It touches the edge, also where it ends at an end.
unfoldable pub bull_stretch : Bull → Edge → Option Stretch → Option Contact
bull_stretch k e None = None
bull_stretch k e (Some m) = at_height (golden_max (bull_at k e) m.from m.to 40) (edge e.which)

-- The best height so far: minus infinity where there is none.
unfoldable pub best_so_far : Option Contact → Float
best_so_far None = minus_infinity
best_so_far (Some m) = m.height

-- The profile only lowers heights, so an edge whose higher end is not above the floor and the best so far cannot exceed them.
unfoldable pub too_low : Float → Option Contact → Edge → Bool
too_low floor c e = le (max_of e.az e.bz) (max_of floor (best_so_far c))

-- The contact c with the candidate of an edge, unless that is too low.
unfoldable pub bull_edge : Bull → Float → Option Contact → Edge → Option Contact
bull_edge k floor c e =
    cond (too_low floor c e) c (offer_of c (bull_stretch k e (reached_of e k.x k.y k.r)))

-- The edges in their order, each beside the best so far.
unfoldable pub bull_edges : Bull → Float → Triangle → Option Contact → Option Contact
bull_edges k floor t c = bull_edge k floor (bull_edge k floor (bull_edge k floor c (edge_ab t)) (edge_bc t)) (edge_ca t)

-- Where the cutter rests on a plane of the slope g: up the slope by as much as the corner's slope is the plane's; on a level one straight below the axis.
unfoldable pub bull_sloped : Bull → Gradient → Float → Rest
bull_sloped k g root = rest_of g k.x k.y (k.r ⊖ k.rc ⊕ k.rc ⊗ g.steep ⊘ root) (k.rc ⊖ k.rc ⊘ root)

unfoldable pub bull_rest : Bull → Gradient → Rest
bull_rest k g =
    cond (lt g.steep no_slope) (record { x = k.x; y = k.y; drop = f0 }) (bull_sloped k g (root_of (f1 ⊕ g.steep ⊗ g.steep)))

-- The candidate of the facet: none on an upright triangle.
unfoldable pub bull_facet : Bull → Triangle → Option Gradient → Option Contact
bull_facet k t None = None
bull_facet k t (Some g) = facet_height t (bull_rest k g)

-- bull_contact_above: the vertices, then the edges that can exceed the floor, then the facet.
unfoldable pub bull_contact_above : Triangle → Bull → Float → Option Contact
bull_contact_above t k floor = offer_of (bull_edges k floor t (bull_vertices k t)) (bull_facet k t (facing_of t))

-- bull_contact: no edge is skipped for a floor.
unfoldable pub bull_contact : Triangle → Bull → Option Contact
bull_contact t k = bull_contact_above t k minus_infinity
