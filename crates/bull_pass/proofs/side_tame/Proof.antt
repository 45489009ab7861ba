use Rattle.rules.proofs.Branches.{and_on, and_off, bool_called}
use Rattle.bull_pass.specs.Inside.{side_tame}
use Rattle.bull_pass.proofs.side_tame.Statement.{statement}
use Rattle.bull_pass.proofs.side_tame.Tie as tie

returns : tie.Need-returns-then-is_coordinate
unfolding side_tame
returns c = search (and_on, and_off, bool_called)

returns-2 : tie.Need-returns-else-is_coordinate
unfolding side_tame
returns-2 c = search (and_on, and_off, bool_called)

pub side_tame_spec : {M : Type 1} → statement M
side_tame_spec = tie.close (tie.spec (λ c κs. tt) (λ c κs. tt) returns returns-2)
