use Rattle.rules.proofs.Branches.{and_on, and_off, bool_called}
use Rattle.bull_pass.proofs.height_fair.Statement.{statement}
use Rattle.bull_pass.proofs.height_fair.Tie as tie

returns : tie.Need-returns-then-axis_fair
returns c = search (and_on, and_off, bool_called)

returns-2 : tie.Need-returns-else-axis_fair
returns-2 c = search (and_on, and_off, bool_called)

pub height_fair_spec : {M : Type 1} → statement M
height_fair_spec = tie.close (tie.spec (λ c κs. tt) (λ c κs. tt) returns returns-2)
