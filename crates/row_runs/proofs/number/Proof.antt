use native.Mathlib.Omega.{arith}
use Rattle.rules.proofs.Branches.{branches}
use Rattle.row_runs.specs.Inside.{number_of}
use Rattle.row_runs.proofs.number.Statement.{statement}
use Rattle.row_runs.proofs.number.Tie as tie

returns : tie.Need-returns-then-forward
unfolding number_of
returns c = search branches

returns-2 : tie.Need-returns-else-forward
unfolding number_of
returns-2 c = search branches

pub number_spec : {M : Type 1} → statement M
number_spec = tie.close (tie.spec (λ c. omega arith) returns returns-2)
