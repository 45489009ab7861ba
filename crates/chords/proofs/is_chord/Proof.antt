use Rattle.rules.proofs.Branches.{and_on, and_off, bool_called}
use Rattle.chords.specs.Chords.{is_chord}
use Rattle.chords.proofs.is_chord.Statement.{statement}
use Rattle.chords.proofs.is_chord.Tie as tie

pub is_chord_spec : {M : Type 1} → statement M
unfolding is_chord
is_chord_spec = tie.close (tie.spec (λ c κs. tt) (λ c κs. tt) (λ c κs. tt) (λ c. search (and_on, and_off, bool_called))
    (λ c. search (and_on, and_off, bool_called)) (λ c. search (and_on, and_off, bool_called)))
