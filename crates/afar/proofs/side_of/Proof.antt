use Rattle.afar.specs.Inside.{side_of}
use Rattle.afar.proofs.side_of.Statement.{statement}
use Rattle.afar.proofs.side_of.Tie as tie

returns : tie.Need-returns
unfolding side_of
returns c = rw (c.max.ensures, c.before.min.ensures)

pub side_of_spec : {M : Type 1} → statement M
side_of_spec = tie.close (tie.spec (λ c κs. tt) (λ c κs. tt) returns)
