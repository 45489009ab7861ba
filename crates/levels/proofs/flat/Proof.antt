use Rattle.levels.specs.Flats.{is_flat}
use Rattle.rules.proofs.Branches.{flags, and_on, and_off}
use borrow.Author.Rules.{rules}
use Rattle.levels.proofs.flat.Statement.{statement}
use Rattle.levels.proofs.flat.Tie as tie
use Rattle.levels.proofs.flat.Reads as reads
use Rattle.levels.proofs.flat.Lts as lts
use Rattle.levels.proofs.bary_answers.Reads as bary-answers-reads
use Rattle.levels.proofs.even.Reads as even-reads

even-requires : tie.Need-even-requires
even-requires c κs = search rules

bary_answers-requires : tie.Need-bary_answers-requires
bary_answers-requires c κs = search rules

returns : tie.Need-returns-then-bary_answers
unfolding is_flat
returns c = search (flags, and_on, and_off)

returns-2 : tie.Need-returns-else-bary_answers
unfolding is_flat
returns-2 c = search (flags, and_on, and_off)

returns-3 : tie.Need-returns-else-even
unfolding is_flat
returns-3 c = search (flags, and_on, and_off)

pub flat_spec : {M : Type 1} → statement M
flat_spec = tie.close (tie.spec even-requires bary_answers-requires returns returns-2 returns-3)
