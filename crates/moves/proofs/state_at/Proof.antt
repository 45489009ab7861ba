use mathlib.Core.Path.{refl}
use Rattle.moves.proofs.state_at.Statement.{statement}
use Rattle.moves.proofs.state_at.Tie as tie

returns : tie.Need-returns
returns c = refl

pub state_at_spec : {M : Type 1} → statement M
state_at_spec = tie.close (tie.spec returns)
