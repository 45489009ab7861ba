use Rattle.rules.proofs.Branches.{and_on, and_off, bool_called}
use Rattle.ahead.specs.Inside.{begins_at}
use Rattle.ahead.proofs.alone.begins.Statement.{statement}
use Rattle.ahead.proofs.alone.begins.Tie as tie

returns : tie.Need-returns-then-is_level
unfolding begins_at
returns c = search (and_on, and_off, bool_called)

returns-2 : tie.Need-returns-else-is_level
unfolding begins_at
returns-2 c = search (and_on, and_off, bool_called)

returns-3 : tie.Need-returns-else-is_start
unfolding begins_at
returns-3 c = search (and_on, and_off, bool_called)

pub begins_spec : {M : Type 1} → statement M
begins_spec = tie.close (tie.spec (λ c κs. tt) (λ c κs. tt) (λ c κs. tt) returns returns-2 returns-3)
