use Rattle.rules.proofs.Branches.{and_on, and_off}
use Rattle.ahead.specs.Inside.{is_large}
use Rattle.ahead.proofs.is_large.Statement.{statement}
use Rattle.ahead.proofs.is_large.Tie as tie

returns : tie.Need-returns-then-k-sides
unfolding is_large
returns c = and_on _ _ _ c.before.if-k-sides.true c.is_under.ensures

returns-2 : tie.Need-returns-else-k-sides
unfolding is_large
returns-2 c = and_off _ _ _ c.if-k-sides.false c.if-k-sides.false

pub is_large_spec : {M : Type 1} → statement M
is_large_spec = tie.close (tie.spec (λ c κs. tt) returns returns-2)
