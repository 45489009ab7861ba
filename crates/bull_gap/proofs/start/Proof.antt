use Rattle.golden.proofs.Turns.{search_laws}
use Rattle.bull_gap.proofs.start.Statement.{statement}
use Rattle.bull_gap.proofs.start.Tie as tie

returns : tie.Need-returns
returns c = search search_laws

pub start_spec : {M : Type 1} → statement M
start_spec = tie.close (tie.spec (λ c κs. tt) (λ c κs. tt) (λ c κs. tt) (λ c κs. tt) (λ c κs. tt) returns)
