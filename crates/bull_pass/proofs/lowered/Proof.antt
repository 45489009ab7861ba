use Rattle.bull_pass.specs.Inside.{lowered_of}
use Rattle.bull_pass.proofs.lowered.Statement.{statement}
use Rattle.bull_pass.proofs.lowered.Tie as tie

returns : tie.Need-returns
unfolding lowered_of
returns c = rw (c.bull_profile.ensures, c.before.min-d.ensures, c.before.before.least.ensures)

pub lowered_spec : {M : Type 1} → statement M
lowered_spec = tie.close (tie.spec (λ c κs. tt) (λ c κs. tt) (λ c κs. tt) returns)
