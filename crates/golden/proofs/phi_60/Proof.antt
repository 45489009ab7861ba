use Rattle.golden.proofs.Computed.{phi60_is}
use Rattle.golden.proofs.phi_60.Statement.{statement}
use Rattle.golden.proofs.phi_60.Tie as tie

pub phi_60_spec : {M : Type 1} → statement M
phi_60_spec = tie.close (tie.spec (λ c. phi60_is))
