-- Document 01, rows `Section` and `section_contact`, and "Questions": a section of a tool, seen from below, and its contact with one triangle. Its lower
-- surface is level to r0, at z0 over the tip, and rises in a straight line to r1.
use Rattle.std.specs.Prelude.{Bool, cond, ◌&&◌, ℕ, Float, None, Option, Some}
use Rattle.std.specs.Float.Ieee.{lt, le}
use Rattle.numbers.specs.Reals.{◌⊕◌, ◌⊖◌, ◌⊗◌, f0, no_slope, million, billion, min_of, abs_of}
use Rattle.roots.specs.Root.{root_of}
use Rattle.roots.specs.Hypot.{hypot_of}
use Rattle.plane.specs.declared.Triangle.{Triangle}
use Rattle.plane.specs.declared.Contact.{Contact}
use Rattle.plane.specs.Contacts.{corner, edge, at_height}
use Rattle.golden.specs.Search.{golden_max_bound}
use Rattle.golden.specs.Upper.{infinity}
use Rattle.cutters.specs.declared.Edge.{Edge}
use Rattle.cutters.specs.declared.Stretch.{Stretch}
use Rattle.cutters.specs.declared.Gradient.{Gradient}
use Rattle.cutters.specs.declared.Rest.{Rest}
use Rattle.above.specs.Above.{offer_of}
use Rattle.cutters.specs.Touch.{edge_ab, edge_bc, edge_ca, along, distance_at, length2, reached_of, facing_of, rest_of, facet_height}
use Rattle.section.specs.declared.Section.{Section}

-- Between 0 and `high`, both included: no for a NaN.
abbrev pub within : Float → Float → Bool
within x high = le f0 x && le x high

-- r1 above 0 and at most 1e6, rise from 0 to 1e9.
unfoldable pub positive_reach : Float → Float → Bool
positive_reach r1 rise = lt f0 r1 && (le r1 million && within rise billion)

-- A valid section: z0 from 0 to 1e6, r0 from 0 to r1, and r1 and rise as above. So all four are finite.
unfoldable pub valid_section : Section → Bool
valid_section s = within s.z0 million && (within s.r0 s.r1 && positive_reach s.r1 s.rise)

-- The height of the lower surface over the tip at the distance d from the axis: none beyond r1.
unfoldable pub profile_of : Section → Float → Option Float
profile_of s d =
    cond (le d s.r0) (Some s.z0) (cond (le d s.r1) (Some (s.z0 ⊕ (d ⊖ s.r0) ⊗ s.rise)) None)

-- That height: infinite beyond r1.
unfoldable pub height_over : Option Float → Float
height_over None = infinity
height_over (Some h) = h

-- The candidate of corner n at the height z under the surface.
unfoldable pub section_under : ℕ → Float → Option Float → Option Contact
section_under n z None = None
section_under n z (Some h) = at_height (z ⊖ h) (corner n)

-- The candidate of vertex n, (vx, vy, vz); the axis stands at (x, y).
unfoldable pub section_vertex : Section → Float → Float → ℕ → Float → Float → Float → Option Contact
section_vertex s x y n vx vy vz = section_under n vz (profile_of s (hypot_of (vx ⊖ x) (vy ⊖ y)))

-- The vertices' candidates, in their order.
unfoldable pub section_vertices : Section → Float → Float → Triangle → Option Contact
section_vertices s x y t =
    let a = section_vertex s x y 0 t.ax t.ay t.az in
    let b = section_vertex s x y 1 t.bx t.by t.bz in
    let c = section_vertex s x y 2 t.cx t.cy t.cz in
    offer_of (offer_of (offer_of None a) b) c

-- The tip's height over the edge's point at t.
unfoldable pub section_at : Section → Float → Float → Edge → Float → Float
section_at s x y e t = along e.az e.bz t ⊖ height_over (profile_of s (min_of (distance_at e x y t) s.r1))

-- How much that height changes at most along the whole edge.
unfoldable pub lipschitz_of : Section → Edge → Float
lipschitz_of s e = abs_of (e.bz ⊖ e.az) ⊕ s.rise ⊗ root_of (length2 e)

-- An upper bound over the edge's stretch under the section, from a search of 60 steps. It touches the edge, also where the search ends at an end and the bound
-- lies a hair above its corner.
unfoldable pub section_stretch : Section → Float → Float → Edge → Option Stretch → Option Contact
section_stretch s x y e None = None
section_stretch s x y e (Some m) = at_height (golden_max_bound (section_at s x y e) m.from m.to (lipschitz_of s e)) (edge e.which)

-- The candidate of an edge.
unfoldable pub section_edge : Section → Float → Float → Edge → Option Contact
section_edge s x y e = section_stretch s x y e (reached_of e x y s.r1)

-- The contact c with the edges' candidates, in their order.
unfoldable pub section_edges : Section → Float → Float → Triangle → Option Contact → Option Contact
section_edges s x y t c =
    offer_of (offer_of (offer_of c (section_edge s x y (edge_ab t))) (section_edge s x y (edge_bc t))) (section_edge s x y (edge_ca t))

-- Up the slope the height grows to r0, and beyond it only on a plane steeper than the section: it is largest at r0 or at r1.
unfoldable pub reach_of : Section → Float → Float
reach_of s steep = cond (le steep s.rise) s.r0 s.r1

-- Where the section rests on a plane of the slope g: on a level one straight below the axis.
unfoldable pub section_sloped : Section → Float → Float → Gradient → Float → Rest
section_sloped s x y g reach = rest_of g x y reach (height_over (profile_of s reach))

unfoldable pub section_rest : Section → Float → Float → Gradient → Rest
section_rest s x y g =
    cond (lt g.steep no_slope) (record { x = x; y = y; drop = s.z0 }) (section_sloped s x y g (reach_of s g.steep))

-- The candidate of the facet: none on an upright triangle.
unfoldable pub section_facet : Section → Float → Float → Triangle → Option Gradient → Option Contact
section_facet s x y t None = None
section_facet s x y t (Some g) = facet_height t (section_rest s x y g)

-- section_contact: the vertices, the edges, the facet; the axis stands at (x, y).
unfoldable pub section_contact : Triangle → Float → Float → Section → Option Contact
section_contact t x y s = offer_of (section_edges s x y t (section_vertices s x y t)) (section_facet s x y t (facing_of t))
