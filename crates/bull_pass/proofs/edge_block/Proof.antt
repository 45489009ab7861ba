use Rattle.bull_pass.specs.Inside.{edge_block}
use Rattle.bull_pass.proofs.edge_block.Statement.{statement}
use Rattle.bull_pass.proofs.edge_block.Tie as tie

returns : tie.Need-returns
unfolding edge_block
returns c = rw (
  c.max-3.ensures,
  c.before.max-2.ensures,
  c.before.before.min-2.ensures,
  c.before.before.before.max.ensures,
  c.before.before.before.before.min.ensures,
)

pub edge_block_spec : {M : Type 1} → statement M
edge_block_spec = tie.close (tie.spec (λ c κs. tt) (λ c κs. tt) (λ c κs. tt) (λ c κs. tt) (λ c κs. tt) returns)
