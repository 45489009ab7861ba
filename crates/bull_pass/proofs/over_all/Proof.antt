use mathlib.Core.Path.{ap, ◌∙◌}
use Rattle.rules.proofs.Branches.{and_on, and_off, bool_called}
use Rattle.bull_pass.specs.Inside.{facet_passes}
use Rattle.bull_pass.proofs.over_all.Statement.{statement}
use Rattle.bull_pass.proofs.over_all.Tie as tie

returns : tie.Need-returns-then-facet_passes
returns c = and_on _ _ _ (bool_called _ _ _ c.before.before.before.before.before.corners_pass.ensures c.before.before.before.before.if-corners_pass.true)
    (and_on _ _ _ (bool_called _ _ _ (c.before.before.facet_passes.ensures ∙ ap (facet_passes _ _) c.before.before.before.facing_of.ensures)
    c.before.if-facet_passes.true) c.edges_pass.ensures)

returns-2 : tie.Need-returns-else-facet_passes
returns-2 c = and_on _ _ _ (bool_called _ _ _ c.before.before.before.before.corners_pass.ensures c.before.before.before.if-corners_pass.true) (and_off _ _ _
    (bool_called _ _ _ (c.before.facet_passes.ensures ∙ ap (facet_passes _ _) c.before.before.facing_of.ensures) c.if-facet_passes.false) c.if-facet_passes.false)

returns-3 : tie.Need-returns-else-corners_pass
returns-3 c = and_off _ _ _ (bool_called _ _ _ c.before.corners_pass.ensures c.if-corners_pass.false) c.if-corners_pass.false

pub over_all_spec : {M : Type 1} → statement M
over_all_spec = tie.close (tie.spec (λ c κs. tt) (λ c κs. tt) (λ c κs. tt) (λ c κs. tt) returns returns-2 returns-3)
