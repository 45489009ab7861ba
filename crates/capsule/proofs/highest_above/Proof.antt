use mathlib.Core.Path.{◌∙◌}
use Rattle.capsule.specs.Region.{contact_of}
use Rattle.capsule.proofs.Leaving.{topped}
use Rattle.capsule.proofs.highest_above.Statement.{statement}
use Rattle.capsule.proofs.highest_above.Tie as tie

returns : tie.Need-returns
unfolding contact_of
returns c = c.contact_of.ensures ∙ (c.before.found_from.ensures ∙ topped _ _ _)

pub highest_above_spec : {M : Type 1} → statement M
highest_above_spec = tie.close (tie.spec (λ c κs. tt) (λ c κs. tt) returns)
