use Rattle.capsule.proofs.Leaving.{single_places}
use Rattle.capsule.proofs.offer_extremes.Statement.{statement}
use Rattle.capsule.proofs.offer_extremes.Tie as tie

returns : tie.Need-returns-then-is_single
returns c = single_places _ _ (c.before.before.is_single.ensures c.before.if-is_single.true) _ _ _ c.offer_firsts.ensures

pub offer_extremes_spec : {M : Type 1} → statement M
offer_extremes_spec = tie.close (tie.spec (λ c κs. tt) (λ c κs. tt) returns (λ c κs. tt) (λ c. c.offer_places.ensures))
