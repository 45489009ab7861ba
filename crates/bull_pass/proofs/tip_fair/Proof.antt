use Rattle.bull_pass.specs.Inside.{tip_fair}
use Rattle.bull_pass.proofs.tip_fair.Statement.{statement}
use Rattle.bull_pass.proofs.tip_fair.Tie as tie

returns : tie.Need-returns
unfolding tip_fair
returns c = rw (c.tip_kept.ensures, c.before.min.ensures)

pub tip_fair_spec : {M : Type 1} → statement M
tip_fair_spec = tie.close (tie.spec (λ c κs. tt) (λ c κs. tt) returns)
