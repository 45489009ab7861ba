use Rattle.rules.proofs.Branches.{branches}
use Rattle.lines.proofs.is_done.Statement.{statement}
use Rattle.lines.proofs.is_done.Tie as tie

returns : tie.Need-returns-then-n-eq0
returns c = search branches

returns-2 : tie.Need-returns-else-n-eq0
returns-2 c = search branches

pub is_done_spec : {M : Type 1} → statement M
is_done_spec = tie.close (tie.spec returns returns-2)
