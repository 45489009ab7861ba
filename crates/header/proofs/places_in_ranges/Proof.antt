use Rattle.rules.proofs.Branches.{branches, bool_called}
use Rattle.header.proofs.places_in_ranges.Statement.{statement}
use Rattle.header.proofs.places_in_ranges.Tie as tie

returns : tie.Need-returns-then-is_coordinate-2
returns c = search (branches, bool_called)

returns-2 : tie.Need-returns-else-is_coordinate-2
returns-2 c = search (branches, bool_called)

returns-3 : tie.Need-returns-else-is_coordinate
returns-3 c = search (branches, bool_called)

pub places_in_ranges_spec : {M : Type 1} → statement M
places_in_ranges_spec = tie.close (tie.spec (λ c κs. tt) (λ c κs. tt) (λ c κs. tt) returns returns-2 returns-3)
