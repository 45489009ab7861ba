use Rattle.rules.proofs.Branches.{branches}
use Rattle.capsule.specs.Region.{contact_of}
use Rattle.capsule.proofs.contact_of.Statement.{statement}
use Rattle.capsule.proofs.contact_of.Tie as tie

returns : tie.Need-returns-then-b-eq0
unfolding contact_of
returns c = search branches

returns-2 : tie.Need-returns-else-b-eq0
unfolding contact_of
returns-2 c = search branches

pub contact_of_spec : {M : Type 1} → statement M
contact_of_spec = tie.close (tie.spec returns returns-2)
