use Rattle.rules.proofs.Branches.{branches}
use Rattle.capsule.specs.Region.{normal_of}
use Rattle.capsule.proofs.normal_of.Statement.{statement}
use Rattle.capsule.proofs.normal_of.Tie as tie

returns : tie.Need-returns-then-len
unfolding normal_of
returns c = search branches

returns-2 : tie.Need-returns-else-len
unfolding normal_of
returns-2 c = search branches

pub normal_of_spec : {M : Type 1} → statement M
normal_of_spec = tie.close (tie.spec returns returns-2)
