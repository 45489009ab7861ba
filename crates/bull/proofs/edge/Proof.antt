use mathlib.Core.Path.{refl}
use Rattle.rules.proofs.Branches.{taken, bool_called}
use Rattle.bull.specs.Bull.{bull_edge}
use Rattle.bull.proofs.Taking.{edge_on}
use Rattle.bull.proofs.edge.Statement.{statement}
use Rattle.bull.proofs.edge.Tie as tie

returns : tie.Need-returns-then-too_low
unfolding bull_edge
returns c = taken _ _ _ _ (bool_called _ _ _ c.before.too_low.ensures c.if-too_low.true) refl

returns-2 : tie.Need-returns
returns-2 c =
    edge_on _ _ _ _ _ _ (bool_called _ _ _ c.before.before.before.too_low.ensures c.before.before.if-too_low.false)
    c.before.reached.ensures c.stretch_on.ensures

pub edge_spec : {M : Type 1} → statement M
edge_spec = tie.close (tie.spec (λ c κs. tt) returns (λ c κs. tt) (λ c κs. c.before.before.before.requires) returns-2)
