use Rattle.afar.specs.Inside.{way_of}
use Rattle.afar.proofs.way.Statement.{statement}
use Rattle.afar.proofs.way.Tie as tie

returns : tie.Need-returns
unfolding way_of
returns c = c.nearer.ensures

pub way_spec : {M : Type 1} → statement M
way_spec = tie.close (tie.spec (λ c κs. tt) returns)
