use mathlib.Core.Path.{refl, ap}
use mathlib.Core.Bool.{not}
use Rattle.rules.proofs.Branches.{taken, left}
use Rattle.chords.specs.Chords.{tool_blocks}
use Rattle.chords.proofs.tool_blocks.Statement.{statement}
use Rattle.chords.proofs.tool_blocks.Tie as tie

returns : tie.Need-returns-then-b-low
unfolding tool_blocks
returns c = taken _ _ _ _ (rw c.before.before.min-tip.ensures at c.if-b-low.true) refl

returns-2 : tie.Need-returns
unfolding tool_blocks
returns-2 c = left _ _ _ _ (rw c.before.before.before.min-tip.ensures at c.before.if-b-low.false) (ap not c.passes_all.ensures)

pub tool_blocks_spec : {M : Type 1} → statement M
tool_blocks_spec = tie.close (tie.spec (λ c κs. tt) returns (λ c κs. tt) returns-2)
