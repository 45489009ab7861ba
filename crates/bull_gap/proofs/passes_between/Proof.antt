use Rattle.rules.proofs.Branches.{and_on, and_off, bool_called}
use Rattle.bull_gap.proofs.passes_between.Statement.{statement}
use Rattle.bull_gap.proofs.passes_between.Tie as tie

returns : tie.Need-returns-then-in_order
returns c = search (and_on, and_off, bool_called)

returns-2 : tie.Need-returns-else-in_order
returns-2 c = search (and_on, and_off, bool_called)

pub passes_between_spec : {M : Type 1} → statement M
passes_between_spec = tie.close (tie.spec (λ c κs. tt) (λ c κs. tt) returns returns-2)
