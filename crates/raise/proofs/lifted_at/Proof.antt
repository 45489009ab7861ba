use Rattle.rules.proofs.Branches.{branches}
use Rattle.raise.specs.Raise.{lifted_at}
use Rattle.raise.proofs.lifted_at.Statement.{statement}
use Rattle.raise.proofs.lifted_at.Tie as tie

returns : tie.Need-returns-then-k-eq2
unfolding lifted_at
returns c = search branches

returns-2 : tie.Need-returns
unfolding lifted_at
returns-2 c = search branches

pub lifted_at_spec : {M : Type 1} → statement M
lifted_at_spec = tie.close (tie.spec returns returns-2)
