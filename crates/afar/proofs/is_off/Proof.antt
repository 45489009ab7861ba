use mathlib.Core.Path.{refl}
use Rattle.rules.proofs.Branches.{taken, left, bool_called}
use Rattle.afar.specs.Inside.{off_of, first_of, last_of}
use Rattle.afar.proofs.is_off.Statement.{statement}
use Rattle.afar.proofs.is_off.Tie as tie

returns : tie.Need-returns-then-is_upright
unfolding off_of
returns c = taken _ _ _ _ (bool_called _ _ _ c.before.is_upright.ensures c.if-is_upright.true) refl

returns-2 : tie.Need-returns
unfolding off_of first_of last_of
returns-2 c = left _ _ _ _ (bool_called _ _ _ c.before.before.is_upright.ensures c.before.if-is_upright.false) c.misses.ensures

pub is_off_spec : {M : Type 1} → statement M
is_off_spec = tie.close (tie.spec (λ c κs. tt) returns (λ c κs. tt) returns-2)
