-- `spans::size` meets its contract.
use Rattle.spans.specs.Axis.{size_of}
use Rattle.spans.proofs.size.Statement.{statement}
use Rattle.spans.proofs.size.Tie as tie

returns : tie.Need-returns
unfolding size_of
returns c = rw (
  c.max-3.ensures,
  c.before.max-2.ensures,
  c.before.before.max.ensures,
  c.before.before.before.root-root.ensures,
  c.before.before.before.before.nearest_u64_to_f64.ensures,
)

pub size_spec : {M : Type 1} → statement M
size_spec = tie.close (tie.spec (λ c κs. tt) (λ c κs. tt) (λ c κs. tt) (λ c κs. tt) (λ c κs. tt) returns)
