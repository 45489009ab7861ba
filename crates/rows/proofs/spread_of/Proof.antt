use Rattle.rows.specs.Lanes.{spread_of}
use Rattle.std.proofs.Common.{rules}
use Rattle.rows.proofs.spread_of.Statement.{statement}
use Rattle.rows.proofs.spread_of.Tie as tie
use Rattle.rows.proofs.spread_of.Reads as reads
use Rattle.rows.proofs.spread_of.Lts as lts

enum_told : tie.Need-enum_told-1
enum_told c = search rules

enum_told-2 : tie.Need-enum_told-in-Y
enum_told-2 c = search rules

returns : tie.Need-returns-in-X
unfolding spread_of
returns c = rw c.before.before.before.before.in-X.is

returns-2 : tie.Need-returns-in-Y
unfolding spread_of
returns-2 c = rw c.before.before.before.before.in-Y.is

pub spread_of_spec : {M : Type 1} → statement M
spread_of_spec = tie.close (tie.spec enum_told enum_told-2 returns returns-2)
