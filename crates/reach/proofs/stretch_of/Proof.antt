use mathlib.Core.Path.{ap, ◌∙◌}
use Rattle.reach.specs.Reach.{stretch_of, stretch_from}
use Rattle.reach.proofs.stretch_of.Statement.{statement}
use Rattle.reach.proofs.stretch_of.Tie as tie

returns : tie.Need-returns
unfolding stretch_of
returns c = c.stretch_from.ensures ∙ ap (stretch_from _ _ _) c.before.nearest.ensures

pub stretch_of_spec : {M : Type 1} → statement M
stretch_of_spec = tie.close (tie.spec (λ c κs. tt) (λ c κs. tt) returns)
