use Rattle.rules.proofs.Branches.{and_on, and_off}
use Rattle.ask.specs.Ask.{is_corner}
use Rattle.ask.proofs.is_corner.Statement.{statement}
use Rattle.ask.proofs.is_corner.Tie as tie

pub is_corner_spec : {M : Type 1} → statement M
unfolding is_corner
is_corner_spec = tie.close (tie.spec (λ c. search (and_on, and_off)) (λ c. search (and_on, and_off)))
