use Rattle.ahead.specs.Inside.{sighted_more}
use Rattle.ahead.proofs.more.Statement.{statement}
use Rattle.ahead.proofs.more.Tie as tie

returns : tie.Need-returns
unfolding sighted_more
returns c = rw (c.edges.ensures, c.before.facet.ensures, c.before.before.lean_of.ensures)

pub more_spec : {M : Type 1} → statement M
more_spec = tie.close (tie.spec (λ c κs. tt) (λ c κs. tt) (λ c κs. tt) returns)
