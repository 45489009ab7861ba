use mathlib.Core.Path.{refl}
use Rattle.rules.proofs.Branches.{taken, left}
use Rattle.ahead.specs.Inside.{rest_on}
use Rattle.ahead.proofs.rest_on.Statement.{statement}
use Rattle.ahead.proofs.rest_on.Tie as tie

returns : tie.Need-returns-then-q-up
unfolding rest_on
returns c = taken _ _ _ _ c.if-q-up.true refl

returns-2 : tie.Need-returns
unfolding rest_on
returns-2 c = left _ _ _ _ c.before.before.if-q-up.false (rw (c.root.ensures, c.before.root-side.ensures))

pub rest_on_spec : {M : Type 1} → statement M
rest_on_spec = tie.close (tie.spec returns (λ c κs. tt) (λ c κs. tt) returns-2)
