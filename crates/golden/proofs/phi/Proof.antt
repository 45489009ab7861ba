use Rattle.golden.proofs.Computed.{phi_is}
use Rattle.golden.proofs.phi.Statement.{statement}
use Rattle.golden.proofs.phi.Tie as tie

pub phi_spec : {M : Type 1} → statement M
phi_spec = tie.close (tie.spec (λ c. phi_is))
