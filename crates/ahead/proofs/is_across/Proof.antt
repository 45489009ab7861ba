use mathlib.Core.Path.{ap}
use lib.Ieee.{Float, le}
use Rattle.numbers.specs.Reals.{f0}
use Rattle.rules.proofs.Branches.{taken, left}
use Rattle.ahead.specs.Inside.{is_across}
use Rattle.ahead.proofs.is_across.Statement.{statement}
use Rattle.ahead.proofs.is_across.Tie as tie

returns : tie.Need-returns-then-a
unfolding is_across
returns c = taken _ _ _ _ c.before.if-a.true (ap (λ (w : Float). le w f0) c.min.ensures)

returns-2 : tie.Need-returns
unfolding is_across
returns-2 c = left _ _ _ _ c.before.if-a.false (ap (λ (w : Float). le f0 w) c.max.ensures)

pub is_across_spec : {M : Type 1} → statement M
is_across_spec = tie.close (tie.spec (λ c κs. tt) returns (λ c κs. tt) returns-2)
