use Rattle.levels.specs.Levels.{widened_by}
use borrow.Author.Rules.{rules}
use Rattle.levels.proofs.widened_by.Statement.{statement}
use Rattle.levels.proofs.widened_by.Tie as tie
use Rattle.levels.proofs.widened_by.Reads as reads
use Rattle.levels.proofs.widened_by.Lts as lts
use Rattle.numbers.proofs.max.Reads as max-reads
use Rattle.numbers.proofs.min.Reads as min-reads

min-requires : tie.Need-min-requires
min-requires c κs = search rules

min-requires-2 : tie.Need-min-requires-2
min-requires-2 c κs = search rules

max-requires : tie.Need-max-requires
max-requires c κs = search rules

max-requires-2 : tie.Need-max-requires-2
max-requires-2 c κs = search rules

returns : tie.Need-returns
unfolding widened_by
returns c = cc

pub widened_by_spec : {M : Type 1} → statement M
widened_by_spec =
    tie.close
    (tie.spec min-requires min-requires-2 max-requires max-requires-2 returns)
