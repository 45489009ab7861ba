use mathlib.Core.Path.{ap, ◌∙◌}
use Rattle.section.specs.Inside.{over_of}
use Rattle.section.proofs.slide.over.Statement.{statement}
use Rattle.section.proofs.slide.over.Tie as tie

returns : tie.Need-returns
returns c = c.over.ensures ∙ ap (over_of _ _) c.before.min.ensures

pub over_spec : {M : Type 1} → statement M
over_spec = tie.close (tie.spec (λ c κs. tt) (λ c κs. tt) returns)
