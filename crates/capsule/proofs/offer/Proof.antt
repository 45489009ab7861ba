use borrow.Author.Tests.{not-true, not-false}
use Rattle.capsule.specs.Region.{in_capsule, contact_of}
use Rattle.capsule.proofs.Gathering.{le_called}
use Rattle.capsule.proofs.Leaving.{lower_stays, outside_stays, higher_takes}
use Rattle.capsule.proofs.offer.Statement.{statement}
use Rattle.capsule.proofs.offer.Tie as tie

returns : tie.Need-returns-then-not-higher
returns c = lower_stays _ _ _ c.before.higher.result c.before.higher.ensures (c.if-not-higher.true)

returns-2 : tie.Need-returns-then-dist2_to_segment-k
unfolding in_capsule contact_of
returns-2 c =
    let d = c.before.before.before in
    higher_takes _ _ _ d.before.higher.result d.before.higher.ensures (d.if-not-higher.false)
    (le_called _ _ _ _ c.before.before.dist2_to_segment.ensures c.if-dist2_to_segment-k.true)

returns-3 : tie.Need-returns
unfolding in_capsule
returns-3 c = outside_stays _ _ _ (le_called _ _ _ _ c.before.before.dist2_to_segment.ensures c.if-dist2_to_segment-k.false)

pub offer_spec : {M : Type 1} → statement M
offer_spec = tie.close (tie.spec (λ c κs. tt) returns (λ c κs. tt) returns-2 returns-3)
