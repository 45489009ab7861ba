use Rattle.rules.proofs.Branches.{and_on, and_off, bool_called}
use Rattle.tips.specs.Contact.{is_stand}
use Rattle.tips.proofs.is_stand.Statement.{statement}
use Rattle.tips.proofs.is_stand.Tie as tie

pub is_stand_spec : {M : Type 1} → statement M
unfolding is_stand
is_stand_spec = tie.close (tie.spec (λ c κs. tt) (λ c κs. tt) (λ c κs. tt) (λ c. search (and_on, and_off, bool_called))
    (λ c. search (and_on, and_off, bool_called)) (λ c. search (and_on, and_off, bool_called)))
