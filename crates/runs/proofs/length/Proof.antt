use Rattle.runs.specs.Runs.{length_of}
use borrow.Author.Rules.{rules}
use Rattle.runs.proofs.length.Statement.{statement}
use Rattle.runs.proofs.length.Tie as tie
use Rattle.runs.proofs.length.Reads as reads
use Rattle.runs.proofs.length.Lts as lts
use Rattle.roots.proofs.hypot.Reads as hypot-reads

hypot-requires : tie.Need-hypot-requires
hypot-requires c κs = search rules

returns : tie.Need-returns
unfolding length_of
returns c = c.hypot.ensures

pub length_spec : {M : Type 1} → statement M
length_spec = tie.close (tie.spec hypot-requires returns)
