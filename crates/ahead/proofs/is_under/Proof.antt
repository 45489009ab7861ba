use Rattle.ahead.specs.Inside.{is_under}
use Rattle.ahead.proofs.is_under.Statement.{statement}
use Rattle.ahead.proofs.is_under.Tie as tie

returns : tie.Need-returns
unfolding is_under
returns c = rw (c.nearer-v.ensures, c.before.nearer-u.ensures)

pub is_under_spec : {M : Type 1} → statement M
is_under_spec = tie.close (tie.spec (λ c κs. tt) (λ c κs. tt) returns)
