use Rattle.std.proofs.Common.{refl}
use Rattle.roots.proofs.Computed.{worked}
use Rattle.roots.proofs.laws.worked_examples.Statement.{statement}
use Rattle.roots.proofs.laws.worked_examples.Tie as tie

pub worked_examples_spec : {M : Type 1} → statement M
worked_examples_spec = tie.close (tie.spec (λ c. (refl, worked)))
