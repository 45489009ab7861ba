use Rattle.std.specs.Prelude.{Option}
use mathlib.Core.Path.{ap, sym, ◌∙◌}
use Rattle.rules.proofs.Branches.{bool_called}
use Rattle.above.specs.Above.{offer_of}
use Rattle.cutters.specs.declared.Stretch.{Stretch}
use Rattle.section.specs.Section.{section_stretch, section_edge}
use Rattle.section.specs.Inside.{low_edge}
use Rattle.section.proofs.Capping.{edge_stays}
use Rattle.section.proofs.edge.Statement.{statement}
use Rattle.section.proofs.edge.Tie as tie

returns : tie.Need-returns-then-skips
returns c =
    let a = c.before.before.before in
    edge_stays _ _ a.requires _ _ _ _
    (bool_called _ _ _ (c.before.skips.ensures ∙ ap (low_edge a.args.s a.args.low a.args.e) c.before.before.limit-limit.ensures) c.if-skips.true)

returns-2 : tie.Need-returns
unfolding section_edge
returns-2 c =
    let a = c.before.before.before.before.before.before.args in
    c.offer.ensures
    ∙ c.before.stretch_of.ensures a.c (sym c.before.before.before.before.before.limit-limit.ensures)
    ∙ ap (λ (k : Option Stretch). offer_of a.c (section_stretch a.s a.x a.y a.e k)) c.before.before.reached-part.ensures

pub edge_spec : {M : Type 1} → statement M
edge_spec = tie.close (tie.spec (λ c κs. tt) (λ c κs. tt) returns (λ c κs. tt) (λ c κs. c.before.before.before.before.requires) (λ c κs. tt) returns-2)
