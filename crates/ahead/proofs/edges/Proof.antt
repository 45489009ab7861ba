use Rattle.ahead.specs.Inside.{sighted_edges}
use Rattle.ahead.proofs.edges.Statement.{statement}
use Rattle.ahead.proofs.edges.Tie as tie

returns : tie.Need-returns
unfolding sighted_edges
returns c = cc

pub edges_spec : {M : Type 1} → statement M
edges_spec = tie.close (tie.spec (λ c κs. tt) (λ c κs. tt) (λ c κs. tt) (λ c κs. tt) (λ c κs. tt) (λ c κs. tt) returns)
