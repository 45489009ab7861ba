-- `spans::span` meets its contract.
use Rattle.spans.specs.Axis.{span_of}
use Rattle.spans.proofs.span.Statement.{statement}
use Rattle.spans.proofs.span.Tie as tie

returns : tie.Need-returns
unfolding span_of
returns c = rw (c.max-2.ensures, c.before.max.ensures)

pub span_spec : {M : Type 1} → statement M
span_spec = tie.close (tie.spec (λ c κs. tt) (λ c κs. tt) returns)
