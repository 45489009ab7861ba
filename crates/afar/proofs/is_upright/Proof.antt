use Rattle.afar.specs.Inside.{upright_of}
use Rattle.afar.proofs.is_upright.Statement.{statement}
use Rattle.afar.proofs.is_upright.Tie as tie

returns : tie.Need-returns
unfolding upright_of
returns c = rw c.abs.ensures

pub is_upright_spec : {M : Type 1} → statement M
is_upright_spec = tie.close (tie.spec (λ c κs. tt) returns)
