use Rattle.numbers.specs.Reals.{max_of}
use Rattle.rules.proofs.Branches.{branches}
use Rattle.numbers.proofs.max.Statement.{statement}
use Rattle.numbers.proofs.max.Tie as tie

returns : tie.Need-returns-then-x
unfolding max_of
returns c = search branches

returns-2 : tie.Need-returns-then-x-y
unfolding max_of
returns-2 c = search branches

returns-3 : tie.Need-returns-else-x-y
unfolding max_of
returns-3 c = search branches

pub max_spec : {M : Type 1} → statement M
max_spec = tie.close (tie.spec returns returns-2 returns-3)
