use Rattle.runs.specs.Inside.{on_to}
use Rattle.rules.proofs.Branches.{branches}
use borrow.Author.Rules.{rules}
use Rattle.runs.proofs.on_to.Statement.{statement}
use Rattle.runs.proofs.on_to.Tie as tie
use Rattle.runs.proofs.on_to.Reads as reads
use Rattle.runs.proofs.on_to.Lts as lts

add-result : tie.Need-overflow_add-result
add-result c = search rules

returns : tie.Need-returns-then-count-room
unfolding on_to
returns c = search branches

returns-2 : tie.Need-returns-else-count-room
unfolding on_to
returns-2 c = search branches

pub on_to_spec : {M : Type 1} → statement M
on_to_spec = tie.close (tie.spec add-result returns returns-2)
