use Rattle.rules.proofs.Branches.{branches}
use Rattle.caps.specs.Inside.{root_most}
use Rattle.caps.proofs.root_most.Statement.{statement}
use Rattle.caps.proofs.root_most.Tie as tie

returns : tie.Need-returns-then-q
unfolding root_most
returns c = search branches

returns-2 : tie.Need-returns-then-q-2
unfolding root_most
returns-2 c = search branches

returns-3 : tie.Need-returns-then-q-3
unfolding root_most
returns-3 c = search branches

returns-4 : tie.Need-returns-else-q-3
unfolding root_most
returns-4 c = search branches

pub root_most_spec : {M : Type 1} → statement M
root_most_spec = tie.close (tie.spec returns returns-2 returns-3 returns-4)
