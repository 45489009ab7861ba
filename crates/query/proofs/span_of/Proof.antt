use Rattle.query.specs.Patch.{axis_span}
use Rattle.query.proofs.span_of.Statement.{statement}
use Rattle.query.proofs.span_of.Tie as tie

returns : tie.Need-returns
unfolding axis_span
returns c = cc

pub span_of_spec : {M : Type 1} → statement M
span_of_spec =
    tie.close (tie.spec (λ c κs. tt) (λ c κs. tt) (λ c κs. tt) (λ c κs. tt) (λ c κs. tt) returns)
