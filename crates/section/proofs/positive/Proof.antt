use Rattle.rules.proofs.Branches.{branches}
use Rattle.section.specs.Section.{positive_reach}
use Rattle.section.proofs.positive.Statement.{statement}
use Rattle.section.proofs.positive.Tie as tie

returns : tie.Need-returns-then-r1-2
unfolding positive_reach
returns c = search branches

returns-2 : tie.Need-returns-else-r1-2
unfolding positive_reach
returns-2 c = search branches

returns-3 : tie.Need-returns-else-r1
unfolding positive_reach
returns-3 c = search branches

pub positive_spec : {M : Type 1} → statement M
positive_spec = tie.close (tie.spec (λ c κs. tt) returns returns-2 returns-3)
