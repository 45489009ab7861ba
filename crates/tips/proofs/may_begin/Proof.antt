use Rattle.rules.proofs.Branches.{and_on, and_off, bool_called}
use Rattle.tips.specs.Inside.{may_begin}
use Rattle.tips.proofs.may_begin.Statement.{statement}
use Rattle.tips.proofs.may_begin.Tie as tie

returns : tie.Need-returns-then-floor-from
unfolding may_begin
returns c = search (and_on, and_off, bool_called)

returns-2 : tie.Need-returns-else-floor-from
unfolding may_begin
returns-2 c = search (and_on, and_off, bool_called)

returns-3 : tie.Need-returns-else-is_start
unfolding may_begin
returns-3 c = search (and_on, and_off, bool_called)

pub may_begin_spec : {M : Type 1} → statement M
may_begin_spec = tie.close (tie.spec (λ c κs. tt) (λ c κs. tt) returns returns-2 returns-3)
