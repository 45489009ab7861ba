use Rattle.levels.specs.Flats.{near_to}
use borrow.Author.Rules.{rules}
use Rattle.levels.proofs.near.Statement.{statement}
use Rattle.levels.proofs.near.Tie as tie
use Rattle.levels.proofs.near.Reads as reads
use Rattle.levels.proofs.near.Lts as lts
use Rattle.numbers.proofs.abs.Reads as abs-reads

abs-requires : tie.Need-abs-requires
abs-requires c κs = search rules

returns : tie.Need-returns
unfolding near_to
returns c = rw c.abs.ensures

pub near_spec : {M : Type 1} → statement M
near_spec = tie.close (tie.spec abs-requires returns)
