use Rattle.runs.proofs.Tallying.{closed_none, closed_is}
use borrow.Author.Tests.{not-true, not-false}
use Rattle.rules.proofs.Branches.{taken, left}
use borrow.Author.Rules.{rules}
use Rattle.runs.proofs.close.Statement.{statement}
use Rattle.runs.proofs.close.Tie as tie
use Rattle.runs.proofs.close.Reads as reads
use Rattle.runs.proofs.close.Lts as lts
use Rattle.fives.proofs.put.Reads as put_reads
use Rattle.runs.proofs.length.Reads as length-reads
use Rattle.runs.proofs.on_to.Reads as on-to-reads

returns : tie.Need-returns-then-not-y
returns c = closed_none _ _ (not-true _ c.if-not-y.true)

on_to-requires : tie.Need-on_to-more-requires
on_to-requires c κs = search rules

put-requires : tie.Need-put-requires
put-requires c κs = search rules

length-requires : tie.Need-length-requires
length-requires c κs = search rules

same_length : tie.Need-shape_of-runs
same_length c = search rules

returns-2 : tie.Need-returns
returns-2 c = closed_is _ _ _ _ _ (not-false _ c.before.before.before.before.before.before.before.before.if-not-y.false)
    c.before.before.before.before.put.ensures c.before.before.before.before.before.before.on_to-more.ensures c.before.length.ensures

pub close_spec : {M : Type 1} → statement M
close_spec =
    tie.close (tie.spec returns on_to-requires put-requires length-requires same_length returns-2)
