use lib.Ieee.{nan_bits}
use Rattle.reach.specs.Inside.{edge_square}
use Rattle.reach.proofs.edge_square.Statement.{statement}
use Rattle.reach.proofs.edge_square.Tie as tie

returns : tie.Need-returns
unfolding edge_square
returns c = cc

pub edge_square_spec : {M : Type 1} → statement M
unfolding nan_bits
edge_square_spec = tie.close (tie.spec (λ c. tt) (λ c κs. tt) (λ c κs. tt) (λ c κs. tt) (λ c κs. tt) (λ c κs. tt) (λ c κs. tt) returns)
