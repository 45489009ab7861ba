use mathlib.Core.Path.{◌∙◌}
use Rattle.above.proofs.Above.{alone}
use Rattle.section.proofs.section_contact.Statement.{statement}
use Rattle.section.proofs.section_contact.Tie as tie

returns : tie.Need-returns
returns c = c.section_contact_on.ensures ∙ alone _

pub section_contact_spec : {M : Type 1} → statement M
section_contact_spec = tie.close (tie.spec (λ c κs. tt) returns)
