use Rattle.rules.proofs.Branches.{taken, left}
use Rattle.tips.specs.Inside.{from_raised}
use Rattle.tips.proofs.raise_from_on.Statement.{statement}
use Rattle.tips.proofs.raise_from_on.Tie as tie

returns : tie.Need-returns-then-best-g
unfolding from_raised
returns c = taken _ _ _ _ c.before.if-best-g.true c.raise_first.ensures

returns-2 : tie.Need-returns
unfolding from_raised
returns-2 c = left _ _ _ _ c.before.if-best-g.false c.raise_bull_on.ensures

pub raise_from_on_spec : {M : Type 1} → statement M
raise_from_on_spec = tie.close (tie.spec (λ c κs. tt) returns (λ c κs. tt) returns-2)
