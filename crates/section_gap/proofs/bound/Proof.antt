use Rattle.golden.proofs.Runs.{run_laws}
use Rattle.section_gap.proofs.bound.Statement.{statement}
use Rattle.section_gap.proofs.bound.Tie as tie

returns : tie.Need-returns-then-lo-hi
returns c = search run_laws

returns-2 : tie.Need-returns-else-lo-hi
returns-2 c = search run_laws

pub bound_spec : {M : Type 1} → statement M
bound_spec = tie.close (tie.spec (λ c κs. tt) (λ c κs. tt) (λ c κs. tt) (λ c κs. tt) (λ c κs. tt) (λ c κs. tt) returns returns-2)
