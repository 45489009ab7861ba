use mathlib.Core.Path.{ap}
use lib.Ieee.{Float, le}
use Rattle.numbers.specs.Reals.{f0}
use Rattle.ahead.proofs.is_level.Statement.{statement}
use Rattle.ahead.proofs.is_level.Tie as tie

pub is_level_spec : {M : Type 1} → statement M
is_level_spec = tie.close (tie.spec (λ c κs. tt) (λ c. ap (λ (w : Float). le f0 w) c.base_of.ensures))
