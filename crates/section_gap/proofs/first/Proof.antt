use Rattle.golden.proofs.Runs.{run_laws}
use Rattle.section_gap.proofs.first.Statement.{statement}
use Rattle.section_gap.proofs.first.Tie as tie

returns : tie.Need-returns
returns c = search run_laws

pub first_spec : {M : Type 1} → statement M
first_spec = tie.close (tie.spec (λ c κs. tt) (λ c κs. tt) (λ c κs. tt) returns)
