use Rattle.rules.proofs.Branches.{branches, bool_called}
use Rattle.header.proofs.eps_in_range.Statement.{statement}
use Rattle.header.proofs.eps_in_range.Tie as tie

returns : tie.Need-returns-then-eps-2
returns c = search (branches, bool_called)

returns-2 : tie.Need-returns-else-eps-2
returns-2 c = search (branches, bool_called)

returns-3 : tie.Need-returns-else-eps
returns-3 c = search (branches, bool_called)

pub eps_in_range_spec : {M : Type 1} → statement M
eps_in_range_spec = tie.close (tie.spec (λ c κs. tt) returns returns-2 returns-3)
