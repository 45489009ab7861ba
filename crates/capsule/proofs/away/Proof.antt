use Rattle.capsule.proofs.Leaving.{away_x, away_y}
use Rattle.capsule.proofs.away.Statement.{statement}
use Rattle.capsule.proofs.away.Tie as tie

returns : tie.Need-returns-then-apart
returns c e = away_x _ _ (c.before.apart.ensures c.if-apart.true)

returns-2 : tie.Need-returns
returns-2 c e = away_y _ _ (c.apart-2.ensures e)

pub away_spec : {M : Type 1} → statement M
away_spec = tie.close (tie.spec (λ c κs. tt) returns (λ c κs. tt) returns-2)
