use mathlib.Core.Path.{refl, ap, ◌∙◌}
use Rattle.rules.proofs.Branches.{taken, left}
use Rattle.bull_gap.specs.Blocks.{bull_blocks, bull_searched}
use Rattle.bull_gap.proofs.Breaking.{nowhere_blocks}
use Rattle.bull_gap.proofs.bull_blocks.Statement.{statement}
use Rattle.bull_gap.proofs.bull_blocks.Tie as tie

returns : tie.Need-returns-then-top-lift
unfolding bull_blocks
returns c = taken _ _ _ _ (rw c.before.min-low.ensures at c.if-top-lift.true) refl

returns-2 : tie.Need-returns-then-is_afar
unfolding bull_blocks
returns-2 c = left _ _ _ _ (rw c.before.before.before.min-low.ensures at c.before.before.if-top-lift.false)
    (nowhere_blocks _ _ _ _ _ (c.before.is_afar.ensures c.if-is_afar.true 50))

returns-3 : tie.Need-returns
unfolding bull_blocks
returns-3 c =
    let s = c.before.before.before.before in
    left _ _ _ _ (rw s.before.min-low.ensures at s.if-top-lift.false) (c.searched.ensures ∙ ap (bull_searched _ _ _ _) c.before.stretch_of.ensures)

pub bull_blocks_spec : {M : Type 1} → statement M
bull_blocks_spec = tie.close (tie.spec (λ c κs. tt) returns (λ c κs. tt) returns-2 (λ c κs. tt) (λ c κs. tt) returns-3)
