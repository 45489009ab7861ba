use Rattle.reach.specs.Inside.{square_at}
use Rattle.reach.proofs.square_at.Statement.{statement}
use Rattle.reach.proofs.square_at.Tie as tie

returns : tie.Need-returns
unfolding square_at
returns c = c.square_xy.ensures

pub square_at_spec : {M : Type 1} → statement M
square_at_spec = tie.close (tie.spec (λ c κs. tt) returns)
