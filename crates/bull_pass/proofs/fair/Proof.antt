use Rattle.rules.proofs.Branches.{and_on, and_off, bool_called}
use Rattle.bull_pass.specs.Inside.{fair_of}
use Rattle.bull_pass.proofs.fair.Statement.{statement}
use Rattle.bull_pass.proofs.fair.Tie as tie

returns : tie.Need-returns-then-axis_fair-2
unfolding fair_of
returns c = search (and_on, and_off, bool_called)

returns-2 : tie.Need-returns-else-axis_fair-2
unfolding fair_of
returns-2 c = search (and_on, and_off, bool_called)

returns-3 : tie.Need-returns-else-axis_fair
unfolding fair_of
returns-3 c = search (and_on, and_off, bool_called)

returns-4 : tie.Need-returns-else-cutter_fair
unfolding fair_of
returns-4 c = search (and_on, and_off, bool_called)

pub fair_spec : {M : Type 1} → statement M
fair_spec = tie.close (tie.spec (λ c κs. tt) (λ c κs. tt) (λ c κs. tt) (λ c κs. tt) returns returns-2 returns-3 returns-4)
