use Rattle.caps.specs.Inside.{least_on}
use Rattle.caps.proofs.least_on.Statement.{statement}
use Rattle.caps.proofs.least_on.Tie as tie

returns : tie.Need-returns
unfolding least_on
returns c = rw (c.hypot.ensures, c.before.side-v.ensures, c.before.before.side-u.ensures)

pub least_on_spec : {M : Type 1} → statement M
least_on_spec = tie.close (tie.spec (λ c κs. tt) (λ c κs. tt) (λ c κs. tt) returns)
