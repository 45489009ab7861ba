use Rattle.runs.specs.Inside.{Work, work, kept_by}
use Rattle.rules.proofs.Branches.{bool_called, taken, left}
use mathlib.Core.Bool.{true}
use mathlib.Core.Path.{ap}
use borrow.Author.Rules.{rules}
use Rattle.runs.proofs.keep.Statement.{statement}
use Rattle.runs.proofs.keep.Tie as tie
use Rattle.runs.proofs.keep.Reads as reads
use Rattle.runs.proofs.keep.Lts as lts
use Rattle.runs.proofs.close.Reads as close-reads
use Rattle.runs.proofs.joins.Reads as joins-reads
use Rattle.runs.proofs.lengthen.Reads as lengthen-reads

joins-requires : tie.Need-joins-requires
joins-requires c κs = search rules

lengthen-requires : tie.Need-lengthen-requires
lengthen-requires c κs = search rules

returns : tie.Need-returns-then-joins
unfolding kept_by
returns c = taken _ _ _ _ (bool_called _ _ _ c.before.before.joins.ensures c.before.if-joins.true)
    (ap (work c.before.before.before.before.args.runs.now) c.lengthen.ensures)

close-requires : tie.Need-close-c-requires
close-requires c κs = search rules

same_length : tie.Need-shape_of-runs
same_length c = search rules

returns-2 : tie.Need-returns
unfolding kept_by
returns-2 c =
    left _ _ _ _ (bool_called _ _ _ c.before.before.before.before.before.joins.ensures c.before.before.before.before.if-joins.false)
    (ap (λ (w : Work). work w.table (record {
      some = true;
      last = c.before.before.before.before.before.before.before.args.r;
      count =
          w.tally.count;
      cut = w.tally.cut;
      dropped = w.tally.dropped;
    })) c.before.before.close-c.ensures)

pub keep_spec : {M : Type 1} → statement M
keep_spec =
    tie.close
    (tie.spec joins-requires lengthen-requires returns close-requires same_length returns-2)
