use Rattle.rules.proofs.Branches.{taken, left, bool_called}
use Rattle.bull_pass.specs.Inside.{misses_of}
use Rattle.bull_pass.proofs.misses.Statement.{statement}
use Rattle.bull_pass.proofs.misses.Tie as tie

returns : tie.Need-returns-then-is_coordinate
unfolding misses_of
returns c = taken _ _ _ _ (bool_called _ _ _ c.before.before.is_coordinate.ensures c.before.if-is_coordinate.true) c.products_miss.ensures

returns-2 : tie.Need-returns-else-is_coordinate
unfolding misses_of
returns-2 c = left _ _ _ _ (bool_called _ _ _ c.before.is_coordinate.ensures c.if-is_coordinate.false) c.if-is_coordinate.false

pub misses_spec : {M : Type 1} → statement M
misses_spec = tie.close (tie.spec (λ c κs. tt) (λ c κs. tt) returns returns-2)
