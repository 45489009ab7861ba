use Rattle.caps.specs.Inside.{side_on}
use Rattle.caps.proofs.side.Statement.{statement}
use Rattle.caps.proofs.side.Tie as tie

returns : tie.Need-returns
unfolding side_on
returns c = rw (c.nearer.ensures, c.before.max.ensures, c.before.before.min-low.ensures)

pub side_spec : {M : Type 1} → statement M
side_spec = tie.close (tie.spec (λ c κs. tt) (λ c κs. tt) (λ c κs. tt) returns)
