use Rattle.reach.proofs.Squares.{starts}
use Rattle.reach.proofs.start.Statement.{statement}
use Rattle.reach.proofs.start.Tie as tie

returns : tie.Need-returns
returns c = search starts

pub start_spec : {M : Type 1} → statement M
start_spec = tie.close (tie.spec (λ c κs. tt) (λ c κs. tt) (λ c κs. tt) (λ c κs. tt) (λ c κs. tt) returns)
