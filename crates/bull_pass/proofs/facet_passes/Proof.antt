use mathlib.Core.Path.{ap, sym, ◌∙◌}
use borrow.Author.Rules.{rules}
use Rattle.bull_pass.specs.Inside.{facet_passes}
use Rattle.bull_pass.proofs.facet_passes.Statement.{statement}
use Rattle.bull_pass.proofs.facet_passes.Tie as tie

returns : tie.Need-returns-in-None
unfolding facet_passes
returns c = ap (facet_passes _ _) (sym c.in-None.is)

returns-2 : tie.Need-returns-in-Some
unfolding facet_passes
returns-2 c = c.rests_miss.ensures ∙ ap (facet_passes _ _) (sym c.before.in-Some.is)

pub facet_passes_spec : {M : Type 1} → statement M
facet_passes_spec = tie.close (tie.spec (λ c. search rules) (λ c. search rules) (λ c κs. tt) returns returns-2)
