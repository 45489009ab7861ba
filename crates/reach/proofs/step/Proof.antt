use Rattle.reach.proofs.Squares.{goes_on}
use Rattle.reach.proofs.step.Statement.{statement}
use Rattle.reach.proofs.step.Tie as tie

returns : tie.Need-returns
returns c = search goes_on

pub step_spec : {M : Type 1} → statement M
step_spec = tie.close (tie.spec (λ c κs. tt) (λ c κs. tt) (λ c κs. tt) (λ c κs. tt) returns)
