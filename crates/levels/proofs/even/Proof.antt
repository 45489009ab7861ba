use Rattle.levels.specs.Flats.{even_of}
use Rattle.rules.proofs.Branches.{flags, and_on, and_off}
use borrow.Author.Rules.{rules}
use Rattle.levels.proofs.even.Statement.{statement}
use Rattle.levels.proofs.even.Tie as tie
use Rattle.levels.proofs.even.Reads as reads
use Rattle.levels.proofs.even.Lts as lts
use Rattle.levels.proofs.near.Reads as near-reads

near-requires : tie.Need-near-requires
near-requires c κs = search rules

near-requires-2 : tie.Need-near-requires-then-near
near-requires-2 c κs = search rules

near-requires-3 : tie.Need-near-requires-then-near-2
near-requires-3 c κs = search rules

returns : tie.Need-returns-then-near-2
unfolding even_of
returns c = search (flags, and_on, and_off)

returns-2 : tie.Need-returns-else-near-2
unfolding even_of
returns-2 c = search (flags, and_on, and_off)

returns-3 : tie.Need-returns-else-near
unfolding even_of
returns-3 c = search (flags, and_on, and_off)

pub even_spec : {M : Type 1} → statement M
even_spec =
    tie.close (tie.spec near-requires near-requires-2 near-requires-3 returns returns-2 returns-3)
