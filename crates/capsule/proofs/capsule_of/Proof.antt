use Rattle.capsule.specs.Region.{capsule_of}
use Rattle.capsule.proofs.capsule_of.Statement.{statement}
use Rattle.capsule.proofs.capsule_of.Tie as tie

returns : tie.Need-returns
unfolding capsule_of
returns c = cc

pub capsule_of_spec : {M : Type 1} → statement M
capsule_of_spec = tie.close (tie.spec (λ c κs. tt) (λ c κs. tt) returns)
