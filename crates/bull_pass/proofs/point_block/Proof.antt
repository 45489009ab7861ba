use mathlib.Core.Path.{refl}
use Rattle.bull_pass.specs.Inside.{point_block}
use Rattle.bull_pass.proofs.point_block.Statement.{statement}
use Rattle.bull_pass.proofs.point_block.Tie as tie

returns : tie.Need-returns
unfolding point_block
returns c = refl

pub point_block_spec : {M : Type 1} → statement M
point_block_spec = tie.close (tie.spec returns)
