use mathlib.Core.Path.{refl}
use Rattle.rules.proofs.Branches.{bool_called}
use Rattle.capsule.specs.Candidates.{reached, point_on}
use Rattle.capsule.proofs.Gathering.{off, reaching}
use Rattle.capsule.proofs.offer_at.Statement.{statement}
use Rattle.capsule.proofs.offer_at.Tie as tie

returns : tie.Need-returns-then-on_edge
unfolding point_on
returns c =
    let d = c.before.before.before.before.before.before.before in
    reaching _ _ _ _ _ _
    (bool_called _ _ _ d.before.before.on_edge.ensures d.before.if-on_edge.true)
    d.clamp_unit-s.ensures
    c.offer.ensures

returns-2 : tie.Need-returns
unfolding reached
returns-2 c = off _ _ _ _ _ (bool_called _ _ _ c.before.on_edge.ensures c.if-on_edge.false) refl

pub offer_at_spec : {M : Type 1} → statement M
offer_at_spec = tie.close (tie.spec (λ c κs. tt) (λ c κs. tt) (λ c κs. tt) returns returns-2)
