use Rattle.rules.proofs.Branches.{branches, bool_called}
use Rattle.setup.specs.Inside.{places_in}
use Rattle.setup.proofs.usable.places_in.Statement.{statement}
use Rattle.setup.proofs.usable.places_in.Tie as tie

returns : tie.Need-returns-then-is_coordinate-3
unfolding places_in
returns c = search (branches, bool_called)

returns-2 : tie.Need-returns-else-is_coordinate-3
unfolding places_in
returns-2 c = search (branches, bool_called)

returns-3 : tie.Need-returns-else-is_coordinate-2
unfolding places_in
returns-3 c = search (branches, bool_called)

returns-4 : tie.Need-returns-else-is_coordinate
unfolding places_in
returns-4 c = search (branches, bool_called)

pub places_in_spec : {M : Type 1} → statement M
places_in_spec =
    tie.close
    (tie.spec (λ c κs. tt) (λ c κs. tt) (λ c κs. tt) (λ c κs. tt) returns returns-2 returns-3 returns-4)
