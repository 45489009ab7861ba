use Rattle.rules.proofs.Branches.{and_on, and_off}
use borrow.Author.Rules.{rules}
use Rattle.runs.proofs.joins.Statement.{statement}
use Rattle.runs.proofs.joins.Tie as tie
use Rattle.runs.proofs.joins.Reads as reads
use Rattle.runs.proofs.joins.Lts as lts
use Rattle.runs.proofs.touches.Reads as touches-reads

touches-requires : tie.Need-touches-requires
touches-requires c κs = search rules

returns : tie.Need-returns-then-y
returns c = search (and_on, and_off)

returns-2 : tie.Need-returns-else-y
returns-2 c = search (and_on, and_off)

pub joins_spec : {M : Type 1} → statement M
joins_spec = tie.close (tie.spec touches-requires returns returns-2)
