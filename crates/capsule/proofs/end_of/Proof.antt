use mathlib.Core.Path.{refl}
use Rattle.capsule.specs.Candidates.{ends}
use Rattle.capsule.proofs.Picking.{last₂}
use Rattle.capsule.proofs.end_of.Statement.{statement}
use Rattle.capsule.proofs.end_of.Tie as tie

returns : tie.Need-returns-then-i-eq0
unfolding ends
returns c = rw c.if-i-eq0.true

returns-2 : tie.Need-returns-else-i-eq0
unfolding ends
returns-2 c = last₂ _ _ _ _ refl c.if-i-eq0.false

pub end_of_spec : {M : Type 1} → statement M
end_of_spec = tie.close (tie.spec returns returns-2)
