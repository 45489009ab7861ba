use Rattle.runs.specs.Inside.{work, taken_by}
use mathlib.Core.Path.{ap}
use Rattle.rules.proofs.Branches.{taken, left}
use borrow.Author.Rules.{rules}
use Rattle.runs.proofs.take.Statement.{statement}
use Rattle.runs.proofs.take.Tie as tie
use Rattle.runs.proofs.take.Reads as reads
use Rattle.runs.proofs.take.Lts as lts
use Rattle.runs.proofs.keep.Reads as keep-reads
use Rattle.runs.proofs.leave.Reads as leave-reads

keep-requires : tie.Need-keep-requires
keep-requires c κs = search rules

same_length : tie.Need-shape_of-runs-then-kept
same_length c = search rules

returns : tie.Need-returns-then-kept
unfolding taken_by
returns c = taken _ _ _ _ c.before.before.before.before.if-kept.true c.before.before.keep.ensures

leave-requires : tie.Need-leave-requires
leave-requires c κs = search rules

returns-2 : tie.Need-returns
unfolding taken_by
returns-2 c = left _ _ _ _ c.before.if-kept.false (ap (work c.before.before.before.args.runs.now) c.leave.ensures)

pub take_spec : {M : Type 1} → statement M
take_spec = tie.close (tie.spec keep-requires same_length returns leave-requires returns-2)
