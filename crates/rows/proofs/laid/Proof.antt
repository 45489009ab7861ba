use Rattle.rows.specs.Lanes.{laid_of}
use Rattle.std.proofs.Common.{rules}
use Rattle.rows.proofs.laid.Statement.{statement}
use Rattle.rows.proofs.laid.Tie as tie
use Rattle.rows.proofs.laid.Reads as reads
use Rattle.rows.proofs.laid.Lts as lts

enum_told : tie.Need-enum_told-1
enum_told c = search rules

enum_told-2 : tie.Need-enum_told-in-Y
enum_told-2 c = search rules

returns : tie.Need-returns-in-X
unfolding laid_of
returns c = rw c.in-X.is

returns-2 : tie.Need-returns-in-Y
unfolding laid_of
returns-2 c = rw c.in-Y.is

pub laid_spec : {M : Type 1} → statement M
laid_spec = tie.close (tie.spec enum_told enum_told-2 returns returns-2)
