use Rattle.capsule.specs.Candidates.{ends, tangents}
use Rattle.capsule.proofs.Leaving.{first_alone, first_two}
use Rattle.capsule.proofs.offer_firsts.Statement.{statement}
use Rattle.capsule.proofs.offer_firsts.Tie as tie

returns : tie.Need-returns-then-h
unfolding ends tangents
returns c =
    let d = c.before.before in
    first_two _ _ _ _ _ _ d.before.before.before.end_of.ensures d.before.before.offer_over-b.ensures _ _ d.if-h.true
    c.before.tangent_of.ensures c.offer_over.ensures

returns-2 : tie.Need-returns
unfolding ends
returns-2 c = first_alone _ _ _ _ _ _ c.before.before.before.end_of.ensures c.before.before.offer_over-b.ensures c.if-h.false

pub offer_firsts_spec : {M : Type 1} → statement M
offer_firsts_spec = tie.close (tie.spec (λ c κs. tt) (λ c κs. tt) (λ c κs. tt) (λ c κs. tt) returns returns-2)
