use Rattle.rules.proofs.Branches.{and_on, and_off, bool_called}
use Rattle.chords.specs.Chords.{is_ride}
use Rattle.chords.proofs.is_ride.Statement.{statement}
use Rattle.chords.proofs.is_ride.Tie as tie

pub is_ride_spec : {M : Type 1} → statement M
unfolding is_ride
is_ride_spec = tie.close (tie.spec (λ c κs. tt) (λ c κs. tt) (λ c. search (and_on, and_off, bool_called)) (λ c. search (and_on, and_off, bool_called)))
