use Rattle.rules.proofs.Branches.{and_on, and_off, bool_called}
use Rattle.bull_pass.specs.Inside.{axis_fair}
use Rattle.bull_pass.proofs.axis_fair.Statement.{statement}
use Rattle.bull_pass.proofs.axis_fair.Tie as tie

returns : tie.Need-returns-then-is_coordinate
unfolding axis_fair
returns c = search (and_on, and_off, bool_called)

returns-2 : tie.Need-returns-else-is_coordinate
unfolding axis_fair
returns-2 c = search (and_on, and_off, bool_called)

pub axis_fair_spec : {M : Type 1} → statement M
axis_fair_spec = tie.close (tie.spec (λ c κs. tt) (λ c κs. tt) returns returns-2)
