use Rattle.rules.proofs.Branches.{no}
use Rattle.afar.specs.Inside.{square_of}
use Rattle.afar.proofs.is_beyond.Statement.{statement}
use Rattle.afar.proofs.is_beyond.Tie as tie

returns-2 : tie.Need-returns
unfolding square_of
returns-2 c e = rw (← c.before.before.way-v.ensures, ← c.before.before.before.way-u.ensures, ← c.root.ensures) e

pub is_beyond_spec : {M : Type 1} → statement M
is_beyond_spec = tie.close (tie.spec (λ c κs. tt) (λ c κs. tt) (λ c e. absurd (no e)) (λ c κs. tt) returns-2)
