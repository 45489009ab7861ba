use mathlib.Core.Path.{refl, ap, ◌∙◌}
use Rattle.rules.proofs.Branches.{taken, left, bool_called}
use Rattle.section_gap.specs.Blocks.{section_blocks, section_searched}
use Rattle.section_gap.proofs.section_blocks.Statement.{statement}
use Rattle.section_gap.proofs.section_blocks.Tie as tie

returns : tie.Need-returns-then-high-min
unfolding section_blocks
returns c = taken _ _ _ _ (rw c.before.min.ensures at c.if-high-min.true) refl

returns-2 : tie.Need-returns-then-box_far
unfolding section_blocks
returns-2 c = left _ _ _ _ (rw c.before.before.before.min.ensures at c.before.before.if-high-min.false)
    (taken _ _ _ _ (bool_called _ _ _ c.before.box_far.ensures c.if-box_far.true) refl)

returns-3 : tie.Need-returns
unfolding section_blocks
returns-3 c = left _ _ _ _ (rw c.before.before.before.before.before.min.ensures at c.before.before.before.before.if-high-min.false)
    (left _ _ _ _ (bool_called _ _ _ c.before.before.before.box_far.ensures c.before.before.if-box_far.false) (c.searched.ensures
    ∙ ap (section_searched _ _ _) c.before.stretch_of.ensures))

pub section_blocks_spec : {M : Type 1} → statement M
section_blocks_spec = tie.close (tie.spec (λ c κs. tt) returns (λ c κs. tt) returns-2 (λ c κs. tt) (λ c κs. tt) returns-3)
