use Rattle.rows.specs.Lanes.{intervals_of}
use Rattle.std.proofs.Common.{rules}
use Rattle.rows.proofs.intervals.Statement.{statement}
use Rattle.rows.proofs.intervals.Tie as tie
use Rattle.rows.proofs.intervals.Reads as reads
use Rattle.rows.proofs.intervals.Lts as lts
use Rattle.rows.proofs.parts.Reads as parts-reads

parts-requires : tie.Need-parts-requires
parts-requires c κs = search rules

returns : tie.Need-returns
unfolding intervals_of
returns c = c.parts.ensures

pub intervals_spec : {M : Type 1} → statement M
intervals_spec = tie.close (tie.spec parts-requires returns)
