use Rattle.rules.proofs.Branches.{taken, left, bool_called}
use Rattle.bull_pass.specs.Inside.{piece_under}
use Rattle.bull_pass.proofs.piece_under.Statement.{statement}
use Rattle.bull_pass.proofs.piece_under.Tie as tie

returns : tie.Need-returns-then-edge_fair
unfolding piece_under
returns c = taken _ _ _ _ (bool_called _ _ _ c.before.before.before.edge_fair.ensures c.before.before.if-edge_fair.true)
    (rw (c.under.ensures, c.before.edge_block.ensures))

returns-2 : tie.Need-returns-else-edge_fair
unfolding piece_under
returns-2 c = left _ _ _ _ (bool_called _ _ _ c.before.edge_fair.ensures c.if-edge_fair.false) c.if-edge_fair.false

pub piece_under_spec : {M : Type 1} → statement M
piece_under_spec = tie.close (tie.spec (λ c κs. tt) (λ c κs. tt) (λ c κs. tt) returns returns-2)
