use Rattle.rules.proofs.Branches.{branches}
use Rattle.section.specs.Section.{reach_of}
use Rattle.section.proofs.reach_of.Statement.{statement}
use Rattle.section.proofs.reach_of.Tie as tie

returns : tie.Need-returns-then-steep-s
unfolding reach_of
returns c = search branches

returns-2 : tie.Need-returns-else-steep-s
unfolding reach_of
returns-2 c = search branches

pub reach_of_spec : {M : Type 1} → statement M
reach_of_spec = tie.close (tie.spec returns returns-2)
