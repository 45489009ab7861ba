use Rattle.rules.proofs.Branches.{and_on, and_off}
use Rattle.look_over.specs.Verdict.{is_tolerance}
use Rattle.look_over.proofs.is_tolerance.Statement.{statement}
use Rattle.look_over.proofs.is_tolerance.Tie as tie

returns : tie.Need-returns-then-t
unfolding is_tolerance
returns c = search (and_on, and_off)

returns-2 : tie.Need-returns-else-t
unfolding is_tolerance
returns-2 c = search (and_on, and_off)

pub is_tolerance_spec : {M : Type 1} → statement M
is_tolerance_spec = tie.close (tie.spec returns returns-2)
