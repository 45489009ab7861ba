use lib.Ieee.{nan_bits}
use Rattle.probe.proofs.Deciding.{beyond_none}
use Rattle.probe.proofs.limit_over.Statement.{statement}
use Rattle.probe.proofs.limit_over.Tie as tie

pub limit_over_spec : {M : Type 1} → statement M
unfolding nan_bits
limit_over_spec = tie.close (tie.spec (λ c κs. tt) (λ c. c.before.is_beyond.ensures c.if-is_beyond.true) (λ c. tt) (λ c. beyond_none _ _))
