use Rattle.runs.specs.Runs.{touches_of}
use Rattle.rules.proofs.Branches.{branches}
use Rattle.runs.proofs.touches.Statement.{statement}
use Rattle.runs.proofs.touches.Tie as tie
use Rattle.runs.proofs.touches.Reads as reads
use Rattle.runs.proofs.touches.Lts as lts

returns : tie.Need-returns-then-last-r-2
unfolding touches_of
returns c = search branches

returns-2 : tie.Need-returns-else-last-r-2
unfolding touches_of
returns-2 c = search branches

returns-3 : tie.Need-returns-else-last-r
unfolding touches_of
returns-3 c = search branches

pub touches_spec : {M : Type 1} → statement M
touches_spec = tie.close (tie.spec returns returns-2 returns-3)
