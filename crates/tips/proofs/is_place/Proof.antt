use Rattle.rules.proofs.Branches.{and_on, and_off, bool_called}
use Rattle.tips.specs.Contact.{is_place}
use Rattle.tips.proofs.is_place.Statement.{statement}
use Rattle.tips.proofs.is_place.Tie as tie

pub is_place_spec : {M : Type 1} → statement M
unfolding is_place
is_place_spec = tie.close (tie.spec (λ c κs. tt) (λ c κs. tt) (λ c. search (and_on, and_off, bool_called)) (λ c. search (and_on, and_off, bool_called)))
