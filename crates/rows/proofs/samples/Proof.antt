use Rattle.rows.specs.Lanes.{samples_of}
use Rattle.std.proofs.Common.{rules}
use Rattle.rows.proofs.samples.Statement.{statement}
use Rattle.rows.proofs.samples.Tie as tie
use Rattle.rows.proofs.samples.Reads as reads
use Rattle.rows.proofs.samples.Lts as lts
use Rattle.rows.proofs.parts.Reads as parts-reads

parts-requires : tie.Need-parts-requires
parts-requires c κs = search rules

returns : tie.Need-returns
unfolding samples_of
returns c = c.parts.ensures

pub samples_spec : {M : Type 1} → statement M
samples_spec = tie.close (tie.spec parts-requires returns)
