use Rattle.rules.proofs.Branches.{branches}
use Rattle.section.proofs.within_range.Statement.{statement}
use Rattle.section.proofs.within_range.Tie as tie

returns : tie.Need-returns-then-x
returns c = search branches

returns-2 : tie.Need-returns-else-x
returns-2 c = search branches

pub within_range_spec : {M : Type 1} → statement M
within_range_spec = tie.close (tie.spec returns returns-2)
