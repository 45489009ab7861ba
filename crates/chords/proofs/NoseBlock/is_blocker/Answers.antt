use Rattle.std.proofs.Common.{refl}
use Rattle.rules.proofs.Branches.{taken, bool_called}
use Rattle.bull_gap.specs.Blocks.{bull_blocks}
use Rattle.chords.specs.Chords.{bull_blocks_at}
use Rattle.chords.specs.Inside.{is_under}
use Rattle.chords.proofs.NoseBlock.is_blocker.Goals as goal

-- what lies under the tool does not block it
pub returns-then-is_under : goal.returns-then-is_under
unfolding bull_blocks_at bull_blocks is_under
returns-then-is_under c =
    taken _ _ _ _ (bool_called _ _ _ (rw c.box_at-b.ensures at c.is_under.ensures) c.if-is_under.true) refl

pub returns : goal.returns
unfolding bull_blocks_at
returns c = rw (c.triangle_at.ensures, c.box_at-b.ensures) at c.bull_blocks.ensures
