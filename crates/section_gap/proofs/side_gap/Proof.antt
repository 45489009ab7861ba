use Rattle.section_gap.specs.Blocks.{side_gap}
use Rattle.section_gap.proofs.side_gap.Statement.{statement}
use Rattle.section_gap.proofs.side_gap.Tie as tie

returns : tie.Need-returns
unfolding side_gap
returns c = rw (c.max-3.ensures, c.before.max-2.ensures, c.before.before.min.ensures, c.before.before.before.max.ensures)

pub side_gap_spec : {M : Type 1} → statement M
side_gap_spec = tie.close (tie.spec (λ c κs. tt) (λ c κs. tt) (λ c κs. tt) (λ c κs. tt) returns)
