use Rattle.rules.proofs.Branches.{no}
use Rattle.start.proofs.Serving.{under_is}
use Rattle.start.proofs.is_under.Statement.{statement}
use Rattle.start.proofs.is_under.Tie as tie

pub is_under_spec : {M : Type 1} → statement M
is_under_spec = tie.close (tie.spec (λ c e. under_is _ _ _ c.if-d-tolerance.true e) (λ c e. absurd (no e)))
