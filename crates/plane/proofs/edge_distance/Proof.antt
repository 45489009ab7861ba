use lib.Ieee.{nan_bits}
use Rattle.plane.specs.Distance.{edge_distance}
use Rattle.plane.proofs.edge_distance.Statement.{statement}
use Rattle.plane.proofs.edge_distance.Tie as tie

returns : tie.Need-returns
unfolding edge_distance
returns c = cc

pub edge_distance_spec : {M : Type 1} → statement M
unfolding nan_bits
edge_distance_spec = tie.close (tie.spec (λ c. tt) (λ c κs. tt) (λ c κs. tt) (λ c κs. tt) (λ c κs. tt) (λ c κs. tt) (λ c κs. tt) (λ c κs. tt) returns)
