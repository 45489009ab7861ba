use Rattle.row_runs.specs.Search.{aim_of}
use Rattle.row_runs.proofs.aim_of.Statement.{statement}
use Rattle.row_runs.proofs.aim_of.Tie as tie

returns : tie.Need-returns
unfolding aim_of
returns c = rw c.step.ensures

pub aim_of_spec : {M : Type 1} → statement M
aim_of_spec = tie.close (tie.spec (λ c κs. tt) returns)
