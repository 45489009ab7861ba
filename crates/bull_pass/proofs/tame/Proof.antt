use Rattle.rules.proofs.Branches.{and_on, and_off, bool_called}
use Rattle.bull_pass.specs.Inside.{tame_of}
use Rattle.bull_pass.proofs.tame.Statement.{statement}
use Rattle.bull_pass.proofs.tame.Tie as tie

returns : tie.Need-returns-then-side_tame-2
unfolding tame_of
returns c = search (and_on, and_off, bool_called)

returns-2 : tie.Need-returns-else-side_tame-2
unfolding tame_of
returns-2 c = search (and_on, and_off, bool_called)

returns-3 : tie.Need-returns-else-side_tame
unfolding tame_of
returns-3 c = search (and_on, and_off, bool_called)

pub tame_spec : {M : Type 1} → statement M
tame_spec = tie.close (tie.spec (λ c κs. tt) (λ c κs. tt) (λ c κs. tt) returns returns-2 returns-3)
