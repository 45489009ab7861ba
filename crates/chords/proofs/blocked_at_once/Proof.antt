use Rattle.chords.specs.Chords.{blocked_at_once}
use Rattle.chords.proofs.blocked_at_once.Statement.{statement}
use Rattle.chords.proofs.blocked_at_once.Tie as tie

returns : tie.Need-returns
unfolding blocked_at_once
returns c = rw c.min.ensures

pub blocked_at_once_spec : {M : Type 1} → statement M
blocked_at_once_spec = tie.close (tie.spec (λ c κs. tt) returns)
