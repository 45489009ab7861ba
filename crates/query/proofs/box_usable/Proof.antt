use Rattle.rules.proofs.Branches.{branches, bool_called}
use Rattle.query.specs.Usable.{box_usable}
use Rattle.query.proofs.box_usable.Statement.{statement}
use Rattle.query.proofs.box_usable.Tie as tie

returns : tie.Need-returns-then-are_coordinates
unfolding box_usable
returns c = search (branches, bool_called)

returns-2 : tie.Need-returns-else-are_coordinates
unfolding box_usable
returns-2 c = search (branches, bool_called)

pub box_usable_spec : {M : Type 1} → statement M
box_usable_spec = tie.close (tie.spec (λ c κs. tt) (λ c κs. tt) returns returns-2)
