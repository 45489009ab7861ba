use Rattle.rules.proofs.Branches.{and_on, and_off, bool_called}
use Rattle.bull_pass.specs.Inside.{plain_range}
use Rattle.bull_pass.proofs.plain.Statement.{statement}
use Rattle.bull_pass.proofs.plain.Tie as tie

returns : tie.Need-returns-then-is_coordinate
unfolding plain_range
returns c = search (and_on, and_off, bool_called)

returns-2 : tie.Need-returns-else-is_coordinate
unfolding plain_range
returns-2 c = search (and_on, and_off, bool_called)

pub plain_spec : {M : Type 1} → statement M
plain_spec = tie.close (tie.spec (λ c κs. tt) (λ c κs. tt) returns returns-2)
