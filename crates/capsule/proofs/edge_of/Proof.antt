use Rattle.capsule.specs.Candidates.{edges, edge_of, corner_a, corner_b, corner_c}
use Rattle.capsule.proofs.Picking.{last₃}
use Rattle.capsule.proofs.edge_of.Statement.{statement}
use Rattle.capsule.proofs.edge_of.Tie as tie

returns : tie.Need-returns-then-i-eq0
unfolding edges edge_of corner_a corner_b corner_c
returns c = rw c.before.if-i-eq0.true c.edge_between.ensures

returns-2 : tie.Need-returns-then-i-eq1
unfolding edges edge_of corner_a corner_b corner_c
returns-2 c = rw c.before.if-i-eq1.true c.edge_between-then-i-eq1.ensures

returns-3 : tie.Need-returns
unfolding edges edge_of corner_a corner_b corner_c
returns-3 c = last₃ _ _ _ _ _ c.edge_between-2.ensures c.before.before.if-i-eq0.false c.before.if-i-eq1.false

pub edge_of_spec : {M : Type 1} → statement M
edge_of_spec = tie.close (tie.spec (λ c κs. tt) returns (λ c κs. tt) returns-2 (λ c κs. tt) returns-3)
