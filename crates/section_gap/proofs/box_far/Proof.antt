use Rattle.section_gap.specs.Blocks.{box_far}
use Rattle.section_gap.proofs.box_far.Statement.{statement}
use Rattle.section_gap.proofs.box_far.Tie as tie

returns : tie.Need-returns
unfolding box_far
returns c = rw (c.hypot.ensures, c.before.side_gap-dy.ensures, c.before.before.side_gap-dx.ensures)

pub box_far_spec : {M : Type 1} → statement M
box_far_spec = tie.close (tie.spec (λ c κs. tt) (λ c κs. tt) (λ c κs. tt) returns)
