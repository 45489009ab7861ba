use Rattle.runs.specs.Inside.{left_by}
use borrow.Author.Rules.{rules}
use Rattle.runs.proofs.leave.Statement.{statement}
use Rattle.runs.proofs.leave.Tie as tie
use Rattle.runs.proofs.leave.Reads as reads
use Rattle.runs.proofs.leave.Lts as lts
use Rattle.runs.proofs.length.Reads as length-reads

length-requires : tie.Need-length-requires
length-requires c κs = search rules

returns : tie.Need-returns
unfolding left_by
returns c = rw c.before.length.ensures

pub leave_spec : {M : Type 1} → statement M
leave_spec = tie.close (tie.spec length-requires returns)
