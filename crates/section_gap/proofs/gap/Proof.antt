use mathlib.Core.Path.{ap, ◌∙◌}
use Rattle.reach.specs.Reach.{gap_of}
use Rattle.section_gap.specs.Blocks.{section_gap}
use Rattle.section_gap.proofs.gap.Statement.{statement}
use Rattle.section_gap.proofs.gap.Tie as tie

returns : tie.Need-returns
unfolding section_gap
returns c = c.gap_of.ensures ∙ ap (gap_of _ _) c.before.contact.ensures

pub gap_spec : {M : Type 1} → statement M
gap_spec = tie.close (tie.spec (λ c κs. tt) (λ c κs. tt) returns)
