use mathlib.Core.Path.{ap, ◌∙◌}
use Rattle.rules.proofs.Branches.{and_on, and_off, bool_called}
use Rattle.bull_pass.specs.Inside.{edges_pass, edge_passes}
use Rattle.bull_pass.proofs.edges_pass.Statement.{statement}
use Rattle.bull_pass.proofs.edges_pass.Tie as tie

returns : tie.Need-returns-then-edge_passes-2
unfolding edges_pass
returns c = and_on _ _ _ (bool_called _ _ _ (c.before.before.before.before.before.before.edge_passes.ensures ∙ ap (edge_passes _)
    c.before.before.before.before.before.before.before.edge_ab.ensures) c.before.before.before.before.before.if-edge_passes.true) (and_on _ _ _
    (bool_called _ _ _ (c.before.before.before.edge_passes-then-edge_passes.ensures ∙ ap (edge_passes _) c.before.before.before.before.edge_bc.ensures)
    c.before.before.if-edge_passes-2.true) (c.edge_passes-then-edge_passes-2.ensures ∙ ap (edge_passes _) c.before.edge_ca.ensures))

returns-2 : tie.Need-returns-else-edge_passes-2
unfolding edges_pass
returns-2 c = and_on _ _ _ (bool_called _ _ _ (c.before.before.before.before.edge_passes.ensures
    ∙ ap (edge_passes _) c.before.before.before.before.before.edge_ab.ensures) c.before.before.before.if-edge_passes.true) (and_off _ _ _
    (bool_called _ _ _ (c.before.edge_passes-then-edge_passes.ensures ∙ ap (edge_passes _) c.before.before.edge_bc.ensures) c.if-edge_passes-2.false) c.if-edge_passes-2.false)

returns-3 : tie.Need-returns-else-edge_passes
unfolding edges_pass
returns-3 c = and_off _ _ _
    (bool_called _ _ _ (c.before.edge_passes.ensures ∙ ap (edge_passes _) c.before.before.edge_ab.ensures) c.if-edge_passes.false) c.if-edge_passes.false

pub edges_pass_spec : {M : Type 1} → statement M
edges_pass_spec = tie.close (tie.spec (λ c κs. tt) (λ c κs. tt) (λ c κs. tt) (λ c κs. tt) (λ c κs. tt) (λ c κs. tt) returns returns-2 returns-3)
