use Rattle.bull_pass.specs.Inside.{range_of}
use Rattle.bull_pass.proofs.span_of.Statement.{statement}
use Rattle.bull_pass.proofs.span_of.Tie as tie

returns : tie.Need-returns
unfolding range_of
returns c = rw (c.max.ensures, c.before.min.ensures)

pub span_of_spec : {M : Type 1} → statement M
span_of_spec = tie.close (tie.spec (λ c κs. tt) (λ c κs. tt) returns)
