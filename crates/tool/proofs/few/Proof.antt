use Rattle.rules.specs.Every.{is_from}
use Rattle.rules.proofs.Branches.{branches}
use Rattle.tool.proofs.few.Statement.{statement}
use Rattle.tool.proofs.few.Tie as tie

returns : tie.Need-returns-then-n-ge1
unfolding is_from
returns c = search branches

returns-2 : tie.Need-returns-else-n-ge1
unfolding is_from
returns-2 c = search branches

pub few_spec : {M : Type 1} → statement M
few_spec = tie.close (tie.spec returns returns-2)
