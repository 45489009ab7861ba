use Rattle.std.proofs.Common.{refl}
use Rattle.rules.proofs.Branches.{taken, bool_called}
use Rattle.chords.specs.Chords.{tool_blocks, tool_blocks_at}
use Rattle.chords.specs.Inside.{is_under}
use Rattle.chords.proofs.SectionsBlock.is_blocker.Goals as goal

-- what lies under the tool does not block it
pub returns-then-is_under : goal.returns-then-is_under
unfolding tool_blocks_at tool_blocks is_under
returns-then-is_under c =
    taken _ _ _ _ (bool_called _ _ _ (rw c.box_at-b.ensures at c.is_under.ensures) c.if-is_under.true) refl

pub returns : goal.returns
unfolding tool_blocks_at
returns c = rw (c.triangle_at.ensures, c.box_at-b.ensures) at c.tool_blocks.ensures
