use Rattle.rules.proofs.Branches.{no}
use Rattle.apart.proofs.apart.Statement.{statement}
use Rattle.apart.proofs.apart.Tie as tie

pub apart_spec : {M : Type 1} → statement M
apart_spec =
    tie.close
    (tie.spec (λ c κs. tt) (λ c κs. tt) (λ c κs. tt) (λ c κs. tt) (λ c. c.over.ensures)
    (λ c κs. tt) (λ c κs. tt) (λ c κs. tt) (λ c κs. tt) (λ c. c.below.ensures) (λ c e. absurd (no e)))
