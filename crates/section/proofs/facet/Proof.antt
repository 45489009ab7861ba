use borrow.Author.Rules.{rules}
use mathlib.Core.Path.{ap, sym, ◌∙◌}
use Rattle.cutters.specs.Touch.{facet_height}
use Rattle.section.specs.Section.{section_facet}
use Rattle.section.proofs.facet.Statement.{statement}
use Rattle.section.proofs.facet.Tie as tie

returns : tie.Need-returns-in-None
unfolding section_facet
returns c = ap (section_facet _ _ _ _) (sym c.in-None.is)

returns-2 : tie.Need-returns-in-Some
unfolding section_facet
returns-2 c = c.facet_height.ensures ∙ ap (facet_height _) c.before.rest.ensures
    ∙ ap (section_facet _ _ _ _) (sym c.before.before.in-Some.is)

pub facet_spec : {M : Type 1} → statement M
facet_spec = tie.close (tie.spec (λ c. search rules) (λ c. search rules) (λ c κs. tt) (λ c κs. tt) returns returns-2)
