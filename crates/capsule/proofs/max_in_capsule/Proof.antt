use Rattle.capsule.specs.Candidates.{max_in_capsule}
use Rattle.capsule.proofs.max_in_capsule.Statement.{statement}
use Rattle.capsule.proofs.max_in_capsule.Tie as tie

returns : tie.Need-returns
unfolding max_in_capsule
returns c = rw c.before.capsule_of.ensures at c.highest_in.ensures

pub max_in_capsule_spec : {M : Type 1} → statement M
max_in_capsule_spec = tie.close (tie.spec (λ c κs. tt) (λ c κs. tt) returns)
