use Rattle.rules.proofs.Branches.{taken, left, bool_called}
use Rattle.tips.specs.Inside.{first_raised}
use Rattle.tips.proofs.raise_first.Statement.{statement}
use Rattle.tips.proofs.raise_first.Tie as tie

returns : tie.Need-returns-then-is_parted
unfolding first_raised
returns c = taken _ _ _ _ (bool_called _ _ _ c.before.before.is_parted.ensures c.before.if-is_parted.true) c.raise_bull_on.ensures

returns-2 : tie.Need-returns
unfolding first_raised
returns-2 c = left _ _ _ _ (bool_called _ _ _ c.before.before.is_parted.ensures c.before.if-is_parted.false) c.at.ensures

pub raise_first_spec : {M : Type 1} → statement M
raise_first_spec = tie.close (tie.spec (λ c κs. tt) (λ c κs. tt) returns (λ c κs. tt) returns-2)
