use Rattle.rules.proofs.Branches.{branches, bool_called}
use Rattle.height.specs.Height.{is_sweep}
use Rattle.height.proofs.is_sweep.Statement.{statement}
use Rattle.height.proofs.is_sweep.Tie as tie

returns : tie.Need-returns-then-are_points
unfolding is_sweep
returns c = search (branches, bool_called)

returns-2 : tie.Need-returns-else-are_points
unfolding is_sweep
returns-2 c = search (branches, bool_called)

pub is_sweep_spec : {M : Type 1} → statement M
is_sweep_spec = tie.close (tie.spec (λ c κs. tt) (λ c κs. tt) returns returns-2)
