use Rattle.rules.proofs.Branches.{and_on, and_off, bool_called}
use Rattle.chords.specs.Chords.{is_end}
use Rattle.chords.proofs.is_end.Statement.{statement}
use Rattle.chords.proofs.is_end.Tie as tie

pub is_end_spec : {M : Type 1} → statement M
unfolding is_end
is_end_spec = tie.close (tie.spec (λ c κs. tt) (λ c κs. tt) (λ c κs. tt) (λ c. search (and_on, and_off, bool_called))
    (λ c. search (and_on, and_off, bool_called)) (λ c. search (and_on, and_off, bool_called)))
