use Rattle.rules.proofs.Branches.{branches}
use Rattle.capsule.specs.Candidates.{on_edge}
use Rattle.capsule.proofs.on_edge.Statement.{statement}
use Rattle.capsule.proofs.on_edge.Tie as tie

returns : tie.Need-returns-then-t
unfolding on_edge
returns c = search branches

returns-2 : tie.Need-returns-else-t
unfolding on_edge
returns-2 c = search branches

pub on_edge_spec : {M : Type 1} → statement M
on_edge_spec = tie.close (tie.spec returns returns-2)
