use mathlib.Core.Path.{refl}
use Rattle.capsule.specs.Candidates.{sided}
use Rattle.capsule.proofs.Gathering.{on, off}
use Rattle.capsule.proofs.offer_side.Statement.{statement}
use Rattle.capsule.proofs.offer_side.Tie as tie

returns : tie.Need-returns-then-den
unfolding sided
returns c = on _ _ _ _ _ c.before.before.before.before.before.before.before.before.if-den.true c.offer_at.ensures

returns-2 : tie.Need-returns
unfolding sided
returns-2 c = off _ _ _ _ _ c.if-den.false refl

pub offer_side_spec : {M : Type 1} → statement M
offer_side_spec = tie.close (tie.spec (λ c κs. tt) returns returns-2)
