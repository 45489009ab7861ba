use Rattle.rules.proofs.Branches.{no}
use Rattle.probe.proofs.Deciding.{beyond_is}
use Rattle.probe.proofs.is_beyond.Statement.{statement}
use Rattle.probe.proofs.is_beyond.Tie as tie

pub is_beyond_spec : {M : Type 1} → statement M
is_beyond_spec = tie.close (tie.spec (λ c e. beyond_is _ _ _ c.if-d-tolerance.true e) (λ c e. absurd (no e)))
