use Rattle.section.proofs.Rims.{clear_far, clear_none}
use Rattle.section.proofs.far_of.Statement.{statement}
use Rattle.section.proofs.far_of.Tie as tie

returns : tie.Need-returns-then-r0-r1
returns c = clear_far _ _ c.before.if-r0-r1.true c.beyond.ensures

pub far_of_spec : {M : Type 1} → statement M
far_of_spec = tie.close (tie.spec (λ c κs. tt) returns (λ c. clear_none _))
