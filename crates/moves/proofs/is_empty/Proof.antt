use Rattle.rules.proofs.Branches.{and_on, and_off}
use Rattle.moves.specs.Phases.{same_of}
use Rattle.moves.proofs.is_empty.Statement.{statement}
use Rattle.moves.proofs.is_empty.Tie as tie

returns : tie.Need-returns-then-end-p-2
unfolding same_of
returns c = search (and_on, and_off)

returns-2 : tie.Need-returns-else-end-p-2
unfolding same_of
returns-2 c = search (and_on, and_off)

returns-3 : tie.Need-returns-else-end-p
unfolding same_of
returns-3 c = search (and_on, and_off)

pub is_empty_spec : {M : Type 1} → statement M
is_empty_spec = tie.close (tie.spec returns returns-2 returns-3)
