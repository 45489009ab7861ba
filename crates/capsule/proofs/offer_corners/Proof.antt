use Rattle.capsule.specs.Region.{offered_all}
use Rattle.capsule.specs.Candidates.{corners, corner_a, corner_b, corner_c}
use Rattle.capsule.proofs.offer_corners.Statement.{statement}
use Rattle.capsule.proofs.offer_corners.Tie as tie

returns : tie.Need-returns
unfolding offered_all corners corner_a corner_b corner_c
returns c = cc

pub offer_corners_spec : {M : Type 1} → statement M
offer_corners_spec = tie.close (tie.spec (λ c κs. tt) (λ c κs. tt) (λ c κs. tt) returns)
