use mathlib.Core.Path.{refl, ap, ◌∙◌}
use Rattle.rules.proofs.Branches.{taken, left}
use Rattle.section.specs.Section.{section_rest, section_sloped}
use Rattle.section.proofs.rest.Statement.{statement}
use Rattle.section.proofs.rest.Tie as tie

returns : tie.Need-returns-then-steep
unfolding section_rest
returns c = taken _ _ _ _ c.if-steep.true refl

returns-2 : tie.Need-returns-else-steep
unfolding section_rest
returns-2 c = left _ _ _ _ c.before.before.if-steep.false (c.sloped.ensures ∙ ap (section_sloped _ _ _ _) c.before.reach_of.ensures)

pub rest_spec : {M : Type 1} → statement M
rest_spec = tie.close (tie.spec (λ c κs. tt) (λ c κs. tt) returns returns-2)
