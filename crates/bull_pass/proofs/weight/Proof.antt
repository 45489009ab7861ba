use Rattle.bull_pass.specs.Inside.{weight_of}
use Rattle.bull_pass.proofs.weight.Statement.{statement}
use Rattle.bull_pass.proofs.weight.Tie as tie

returns : tie.Need-returns
unfolding weight_of
returns c = rw (c.min-2.ensures, c.before.max-2.ensures, c.before.before.max.ensures, c.before.before.before.min.ensures)

pub weight_spec : {M : Type 1} → statement M
weight_spec = tie.close (tie.spec (λ c κs. tt) (λ c κs. tt) (λ c κs. tt) (λ c κs. tt) returns)
