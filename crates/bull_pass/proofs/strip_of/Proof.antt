use Rattle.bull_pass.specs.Inside.{strip_of}
use Rattle.bull_pass.proofs.strip_of.Statement.{statement}
use Rattle.bull_pass.proofs.strip_of.Tie as tie

returns : tie.Need-returns
unfolding strip_of
returns c = rw (
  c.min-3.ensures,
  c.before.max-2.ensures,
  c.before.before.min-2.ensures,
  c.before.before.before.max.ensures,
  c.before.before.before.before.min.ensures,
)

pub strip_of_spec : {M : Type 1} → statement M
strip_of_spec = tie.close (tie.spec (λ c κs. tt) (λ c κs. tt) (λ c κs. tt) (λ c κs. tt) (λ c κs. tt) returns)
