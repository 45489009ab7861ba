use Rattle.golden.proofs.Runs.{run_laws}
use Rattle.section_gap.proofs.turn.Statement.{statement}
use Rattle.section_gap.proofs.turn.Tie as tie

returns : tie.Need-returns
returns c = search run_laws

pub turn_spec : {M : Type 1} → statement M
turn_spec = tie.close (tie.spec (λ c κs. tt) (λ c κs. tt) returns)
