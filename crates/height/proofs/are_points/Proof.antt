use Rattle.rules.proofs.Branches.{branches, bool_called}
use Rattle.height.specs.Height.{are_points}
use Rattle.height.proofs.are_points.Statement.{statement}
use Rattle.height.proofs.are_points.Tie as tie

returns : tie.Need-returns-then-is_point-3
unfolding are_points
returns c = search (branches, bool_called)

returns-2 : tie.Need-returns-else-is_point-3
unfolding are_points
returns-2 c = search (branches, bool_called)

returns-3 : tie.Need-returns-else-is_point-2
unfolding are_points
returns-3 c = search (branches, bool_called)

returns-4 : tie.Need-returns-else-is_point
unfolding are_points
returns-4 c = search (branches, bool_called)

pub are_points_spec : {M : Type 1} → statement M
are_points_spec = tie.close (tie.spec (λ c κs. tt) (λ c κs. tt) (λ c κs. tt) (λ c κs. tt) returns returns-2 returns-3 returns-4)
