use Rattle.bull_pass.specs.Inside.{rests_miss}
use Rattle.bull_pass.proofs.rests_miss.Statement.{statement}
use Rattle.bull_pass.proofs.rests_miss.Tie as tie

returns : tie.Need-returns
unfolding rests_miss
returns c = rw (c.misses.ensures, c.before.rest-2.ensures, c.before.before.rest.ensures)

pub rests_miss_spec : {M : Type 1} → statement M
rests_miss_spec = tie.close (tie.spec (λ c κs. tt) (λ c κs. tt) (λ c κs. tt) returns)
