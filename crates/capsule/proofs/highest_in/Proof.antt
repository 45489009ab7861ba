use mathlib.Core.Path.{◌∙◌}
use Rattle.capsule.proofs.highest_in.Statement.{statement}
use Rattle.capsule.proofs.highest_in.Tie as tie

returns : tie.Need-returns
returns c = c.contact_of.ensures ∙ c.before.found_in.ensures.0

pub highest_in_spec : {M : Type 1} → statement M
highest_in_spec = tie.close (tie.spec (λ c κs. tt) (λ c κs. tt) returns)
