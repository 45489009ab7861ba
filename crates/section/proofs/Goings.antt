-- The candidates of a section that go on from a contact c.
use Rattle.cutters.specs.declared.Gradient.{Gradient}
use Rattle.std.specs.Prelude.{Option}
use mathlib.Core.Path.{◌≡◌, ap, sym, ◌∙◌}
use lib.Ieee.{Float}
use Rattle.plane.specs.declared.Triangle.{Triangle}
use Rattle.plane.specs.declared.Contact.{Contact}
use Rattle.above.specs.Above.{offer_of}
use Rattle.above.proofs.Above.{offers, three_on}
use Rattle.cutters.specs.Touch.{edge_ab, edge_bc, edge_ca, facing_of}
use Rattle.section.specs.declared.Section.{Section}
use Rattle.section.specs.Section.{section_vertices, section_edge, section_edges, section_facet, section_contact}

edges_on : (s : Section) (x y : Float) (t : Triangle) (c d : Option Contact) → offer_of c (section_edges s x y t d) ≡ section_edges s x y t (offer_of c d)
unfolding section_edges
edges_on s x y t c d = three_on c d (section_edge s x y (edge_ab t)) (section_edge s x y (edge_bc t)) (section_edge s x y (edge_ca t))

pub contact_on : (s : Section) (x y : Float) (t : Triangle) (c v e k r : Option Contact) {g : Option Gradient} → v ≡ offer_of c (section_vertices s x y t)
    → e ≡ section_edges s x y t v → g ≡ facing_of t → k ≡ section_facet s x y t g → r ≡ offer_of e k
    → r ≡ offer_of c (section_contact t x y s)
unfolding section_contact
contact_on s x y t c v e k r {g} p q f h o =
    let F = section_facet s x y t (facing_of t) in
    o
    ∙ ap (offer_of e) (h ∙ ap (section_facet s x y t) f)
    ∙ ap (λ d. offer_of d F) (q ∙ ap (section_edges s x y t) p ∙ sym (edges_on s x y t c (section_vertices s x y t)))
    ∙ sym (offers c (section_edges s x y t (section_vertices s x y t)) F)
