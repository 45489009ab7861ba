use Rattle.capsule.specs.Candidates.{flanks}
use Rattle.capsule.proofs.Picking.{last₄}
use Rattle.capsule.proofs.flank_of.Statement.{statement}
use Rattle.capsule.proofs.flank_of.Tie as tie

returns : tie.Need-returns-then-i-eq0
unfolding flanks
returns c = rw c.before.if-i-eq0.true c.flank_at.ensures

returns-2 : tie.Need-returns-then-i-eq1
unfolding flanks
returns-2 c = rw c.before.if-i-eq1.true c.flank_at-then-i-eq1.ensures

returns-3 : tie.Need-returns-then-i-eq2
unfolding flanks
returns-3 c = rw c.before.if-i-eq2.true c.flank_at-then-i-eq2.ensures

returns-4 : tie.Need-returns
unfolding flanks
returns-4 c = last₄ _ _ _ _ _ _ c.flank_at-2.ensures c.before.before.before.if-i-eq0.false c.before.before.if-i-eq1.false c.before.if-i-eq2.false

pub flank_of_spec : {M : Type 1} → statement M
flank_of_spec = tie.close (tie.spec (λ c κs. tt) returns (λ c κs. tt) returns-2 (λ c κs. tt) returns-3 (λ c κs. tt) returns-4)
