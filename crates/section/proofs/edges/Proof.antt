use Rattle.std.specs.Prelude.{Option}
use mathlib.Core.Path.{ap, ◌∙◌}
use Rattle.plane.specs.declared.Contact.{Contact}
use Rattle.above.specs.Above.{offer_of}
use Rattle.above.proofs.Above.{three}
use Rattle.cutters.specs.declared.Edge.{Edge}
use Rattle.section.specs.Section.{section_edge, section_edges}
use Rattle.section.proofs.edges.Statement.{statement}
use Rattle.section.proofs.edges.Tie as tie

returns : tie.Need-returns
unfolding section_edges
returns c =
    let a = c.before.before.before.before.before.before.args in
    let on : Option Contact → Edge → Option Contact = λ d e. offer_of d (section_edge a.s a.x a.y e) in
    three _ _ _ _ _ _ _
    (c.before.before.before.before.edge-ab.ensures ∙ ap (on _) c.before.before.before.before.before.edge_ab.ensures)
    (c.before.before.edge-bc.ensures ∙ ap (on _) c.before.before.before.edge_bc.ensures)
    (c.edge.ensures ∙ ap (on _) c.before.edge_ca.ensures)

pub edges_spec : {M : Type 1} → statement M
edges_spec = tie.close (tie.spec (λ c κs. tt) (λ c κs. c.before.requires) (λ c κs. tt) (λ c κs. c.before.before.before.requires) (λ c κs. tt)
    (λ c κs. c.before.before.before.before.before.requires) returns)
