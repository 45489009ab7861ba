use Rattle.rules.proofs.Branches.{branches}
use Rattle.rules.specs.Every.{is_from}
use Rattle.setup.proofs.usable.is_from.Statement.{statement}
use Rattle.setup.proofs.usable.is_from.Tie as tie

returns : tie.Need-returns-then-a-k
unfolding is_from
returns c = search (branches)

returns-2 : tie.Need-returns-else-a-k
unfolding is_from
returns-2 c = search (branches)

pub is_from_spec : {M : Type 1} → statement M
is_from_spec =
    tie.close
    (tie.spec returns returns-2)
