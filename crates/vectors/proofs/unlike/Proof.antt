use Rattle.rules.proofs.Branches.{branches}
use Rattle.vectors.specs.Lines.{unlike_of}
use Rattle.vectors.proofs.unlike.Statement.{statement}
use Rattle.vectors.proofs.unlike.Tie as tie

returns : tie.Need-returns-then-a-b
unfolding unlike_of
returns c = search branches

returns-2 : tie.Need-returns-else-a-b
unfolding unlike_of
returns-2 c = search branches

pub unlike_spec : {M : Type 1} → statement M
unlike_spec = tie.close (tie.spec returns returns-2)
