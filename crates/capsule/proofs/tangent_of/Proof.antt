use mathlib.Core.Path.{refl}
use Rattle.capsule.specs.Candidates.{tangents}
use Rattle.capsule.proofs.Picking.{last₂}
use Rattle.capsule.proofs.tangent_of.Statement.{statement}
use Rattle.capsule.proofs.tangent_of.Tie as tie

returns : tie.Need-returns-then-i-eq0
unfolding tangents
returns c = rw c.before.before.before.before.if-i-eq0.true

returns-2 : tie.Need-returns-else-i-eq0
unfolding tangents
returns-2 c = last₂ _ _ _ _ refl c.before.before.before.before.if-i-eq0.false

pub tangent_of_spec : {M : Type 1} → statement M
tangent_of_spec = tie.close (tie.spec returns returns-2)
