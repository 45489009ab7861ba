use Rattle.rules.proofs.Branches.{and_on, and_off, bool_called}
use Rattle.bull_pass.specs.Inside.{tip_kept}
use Rattle.bull_pass.proofs.tip_kept.Statement.{statement}
use Rattle.bull_pass.proofs.tip_kept.Tie as tie

returns : tie.Need-returns-then-is_coordinate-2
unfolding tip_kept
returns c = search (and_on, and_off, bool_called)

returns-2 : tie.Need-returns-else-is_coordinate-2
unfolding tip_kept
returns-2 c = search (and_on, and_off, bool_called)

returns-3 : tie.Need-returns-else-is_coordinate
unfolding tip_kept
returns-3 c = search (and_on, and_off, bool_called)

pub tip_kept_spec : {M : Type 1} → statement M
tip_kept_spec = tie.close (tie.spec (λ c κs. tt) (λ c κs. tt) (λ c κs. tt) returns returns-2 returns-3)
