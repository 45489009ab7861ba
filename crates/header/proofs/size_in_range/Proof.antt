use Rattle.rules.proofs.Branches.{branches}
use Rattle.header.proofs.size_in_range.Statement.{statement}
use Rattle.header.proofs.size_in_range.Tie as tie

returns : tie.Need-returns-then-cell
returns c = search branches

returns-2 : tie.Need-returns-else-cell
returns-2 c = search branches

pub size_in_range_spec : {M : Type 1} → statement M
size_in_range_spec = tie.close (tie.spec returns returns-2)
