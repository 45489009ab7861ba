use Rattle.rows.specs.Lanes.{along_of}
use Rattle.std.proofs.Common.{rules}
use Rattle.rows.proofs.along.Statement.{statement}
use Rattle.rows.proofs.along.Tie as tie
use Rattle.rows.proofs.along.Reads as reads
use Rattle.rows.proofs.along.Lts as lts
use Rattle.std.proofs.num.nearest_u64_to_f64.Reads as nearest-u64-to-f64-reads

nearest_u64_to_f64-requires : tie.Need-nearest_u64_to_f64-requires
nearest_u64_to_f64-requires c κs = search rules

nearest_u64_to_f64-requires-2 : tie.Need-nearest_u64_to_f64-requires-2
nearest_u64_to_f64-requires-2 c κs = search rules

returns : tie.Need-returns
unfolding along_of
returns c = rw (c.before.nearest_u64_to_f64-2.ensures, c.before.before.nearest_u64_to_f64.ensures)

pub along_spec : {M : Type 1} → statement M
along_spec = tie.close (tie.spec nearest_u64_to_f64-requires nearest_u64_to_f64-requires-2 returns)
