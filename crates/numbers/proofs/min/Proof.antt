use Rattle.numbers.specs.Reals.{min_of}
use Rattle.rules.proofs.Branches.{branches}
use Rattle.numbers.proofs.min.Statement.{statement}
use Rattle.numbers.proofs.min.Tie as tie

returns : tie.Need-returns-then-x
unfolding min_of
returns c = search branches

returns-2 : tie.Need-returns-then-y-x
unfolding min_of
returns-2 c = search branches

returns-3 : tie.Need-returns-else-y-x
unfolding min_of
returns-3 c = search branches

pub min_spec : {M : Type 1} → statement M
min_spec = tie.close (tie.spec returns returns-2 returns-3)
