use Rattle.rows.specs.Lanes.{step_of}
use Rattle.std.proofs.Common.{rules}
use Rattle.rows.proofs.step.Statement.{statement}
use Rattle.rows.proofs.step.Tie as tie
use Rattle.rows.proofs.step.Reads as reads
use Rattle.rows.proofs.step.Lts as lts
use Rattle.numbers.proofs.min.Reads as min-reads

min-requires : tie.Need-min-requires
min-requires c κs = search rules

returns : tie.Need-returns
unfolding step_of
returns c = rw c.min.ensures

pub step_spec : {M : Type 1} → statement M
step_spec = tie.close (tie.spec min-requires returns)
