use Rattle.rules.proofs.Branches.{branches}
use Rattle.capsule.proofs.count_of.Statement.{statement}
use Rattle.capsule.proofs.count_of.Tie as tie

returns : tie.Need-returns-then-h
returns c = search branches

returns-2 : tie.Need-returns-else-h
returns-2 c = search branches

pub count_of_spec : {M : Type 1} → statement M
count_of_spec = tie.close (tie.spec returns returns-2)
