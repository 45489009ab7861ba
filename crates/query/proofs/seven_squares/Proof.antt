use mathlib.Core.Path.{refl}
use Rattle.query.specs.Inside.{seven_squares}
use Rattle.query.proofs.seven_squares.Statement.{statement}
use Rattle.query.proofs.seven_squares.Tie as tie

returns : tie.Need-returns
unfolding seven_squares
returns c = refl

pub seven_squares_spec : {M : Type 1} → statement M
seven_squares_spec = tie.close (tie.spec returns)
