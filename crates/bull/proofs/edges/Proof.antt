use Rattle.bull.specs.Bull.{bull_edges}
use Rattle.bull.proofs.edges.Statement.{statement}
use Rattle.bull.proofs.edges.Tie as tie

returns : tie.Need-returns
unfolding bull_edges
returns c = cc

pub edges_spec : {M : Type 1} → statement M
edges_spec = tie.close (tie.spec (λ c κs. tt) (λ c κs. c.before.requires) (λ c κs. tt) (λ c κs. c.before.before.before.requires) (λ c κs. tt)
    (λ c κs. c.before.before.before.before.before.requires) returns)
