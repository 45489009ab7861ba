use Rattle.rules.proofs.Branches.{branches}
use Rattle.bull_pass.specs.Inside.{outside_of}
use Rattle.bull_pass.proofs.outside.Statement.{statement}
use Rattle.bull_pass.proofs.outside.Tie as tie

returns : tie.Need-returns-then-v
unfolding outside_of
returns c = search branches

returns-2 : tie.Need-returns-then-w
unfolding outside_of
returns-2 c = search branches

returns-3 : tie.Need-returns
unfolding outside_of
returns-3 c = search branches

pub outside_spec : {M : Type 1} → statement M
outside_spec = tie.close (tie.spec returns returns-2 returns-3)
