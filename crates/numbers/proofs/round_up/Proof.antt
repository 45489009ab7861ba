use Rattle.std.proofs.Common.{ap}
use lib.Ieee.{neg}
use Rattle.numbers.specs.Rounding.{round_up_of}
use Rattle.numbers.proofs.round_up.Statement.{statement}
use Rattle.numbers.proofs.round_up.Tie as tie

returns : tie.Need-returns
unfolding round_up_of
returns c = ap neg c.round_down.ensures

pub round_up_spec : {M : Type 1} → statement M
round_up_spec = tie.close (tie.spec (λ c κs. tt) returns)
