use mathlib.Core.Path.{sym}
use Rattle.capsule.proofs.Leaving.{crossed_same}
use Rattle.capsule.proofs.offer_crossings.Statement.{statement}
use Rattle.capsule.proofs.offer_crossings.Tie as tie

returns : tie.Need-returns-then-under
returns c = sym (crossed_same _ _ _ (c.before.under.ensures c.if-under.true))

pub offer_crossings_spec : {M : Type 1} → statement M
offer_crossings_spec = tie.close (tie.spec (λ c κs. tt) returns (λ c κs. tt) (λ c. c.offer_crossed.ensures))
