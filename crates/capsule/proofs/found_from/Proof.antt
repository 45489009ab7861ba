use Rattle.capsule.proofs.Gathering.{whole}
use Rattle.capsule.proofs.Leaving.{away_corners, away_edges}
use Rattle.capsule.proofs.found_from.Statement.{statement}
use Rattle.capsule.proofs.found_from.Tie as tie

returns : tie.Need-returns-then-away
returns c =
    let u = c.before.before.away.ensures c.before.if-away.true in
    whole _ _ _ _ _ _ (away_corners _ _ _ u) (away_edges _ _ _ u) c.offer_inner.ensures

returns-2 : tie.Need-returns
returns-2 c = whole _ _ _ _ _ _ c.before.before.offer_corners-corners.ensures c.before.offer_edges-crossings.ensures c.offer_inner-2.ensures

pub found_from_spec : {M : Type 1} → statement M
found_from_spec = tie.close (tie.spec (λ c κs. tt) (λ c κs. tt) returns (λ c κs. tt) (λ c κs. tt) (λ c κs. tt) returns-2)
