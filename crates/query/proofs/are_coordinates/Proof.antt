use Rattle.rules.proofs.Branches.{branches, bool_called}
use Rattle.query.specs.Usable.{are_coordinates}
use Rattle.query.proofs.are_coordinates.Statement.{statement}
use Rattle.query.proofs.are_coordinates.Tie as tie

returns : tie.Need-returns-then-is_coordinate-3
unfolding are_coordinates
returns c = search (branches, bool_called)

returns-2 : tie.Need-returns-else-is_coordinate-3
unfolding are_coordinates
returns-2 c = search (branches, bool_called)

returns-3 : tie.Need-returns-else-is_coordinate-2
unfolding are_coordinates
returns-3 c = search (branches, bool_called)

returns-4 : tie.Need-returns-else-is_coordinate
unfolding are_coordinates
returns-4 c = search (branches, bool_called)

pub are_coordinates_spec : {M : Type 1} → statement M
are_coordinates_spec = tie.close (tie.spec (λ c κs. tt) (λ c κs. tt) (λ c κs. tt) (λ c κs. tt) returns returns-2 returns-3 returns-4)
