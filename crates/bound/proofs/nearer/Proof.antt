use Rattle.rules.proofs.Branches.{branches}
use Rattle.bound.specs.Inside.{nearer_of}
use Rattle.bound.proofs.nearer.Statement.{statement}
use Rattle.bound.proofs.nearer.Tie as tie

returns : tie.Need-returns-then-low
unfolding nearer_of
returns c = search branches

returns-2 : tie.Need-returns-then-high
unfolding nearer_of
returns-2 c = search branches

returns-3 : tie.Need-returns
unfolding nearer_of
returns-3 c = search branches

pub nearer_spec : {M : Type 1} → statement M
nearer_spec = tie.close (tie.spec returns returns-2 returns-3)
