use Rattle.rules.proofs.Branches.{branches, bool_called}
use Rattle.setup.specs.Question.{meets}
use Rattle.setup.proofs.meets.Statement.{statement}
use Rattle.setup.proofs.meets.Tie as tie

touches-requires : tie.Need-touches-requires
touches-requires c κs = let p = c.requires in (p.1, p.0.right, p.0.by)

touches-requires-2 : tie.Need-touches-requires-then-touches
touches-requires-2 c κs = let p = c.before.before.requires in (p.2, p.0.top, p.0.by)

returns : tie.Need-returns-then-touches
unfolding meets
returns c = search (branches, bool_called)

returns-2 : tie.Need-returns-else-touches
unfolding meets
returns-2 c = search (branches, bool_called)

pub meets_spec : {M : Type 1} → statement M
meets_spec =
    tie.close
    (tie.spec touches-requires touches-requires-2 returns returns-2)
