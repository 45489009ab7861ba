use Rattle.golden.proofs.Turns.{search_laws}
use Rattle.section_gap.proofs.step.Statement.{statement}
use Rattle.section_gap.proofs.step.Tie as tie

returns : tie.Need-returns
returns c = search search_laws

pub step_spec : {M : Type 1} → statement M
step_spec = tie.close (tie.spec (λ c κs. tt) (λ c κs. tt) (λ c κs. tt) (λ c κs. tt) returns)
