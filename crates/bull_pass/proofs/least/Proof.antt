use Rattle.bull_pass.specs.Inside.{least_of}
use Rattle.bull_pass.proofs.least.Statement.{statement}
use Rattle.bull_pass.proofs.least.Tie as tie

returns : tie.Need-returns
unfolding least_of
returns c = rw (c.hypot.ensures, c.before.nearer-v.ensures, c.before.before.nearer-u.ensures)

pub least_spec : {M : Type 1} → statement M
least_spec = tie.close (tie.spec (λ c κs. tt) (λ c κs. tt) (λ c κs. tt) returns)
