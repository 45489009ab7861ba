use Rattle.rules.proofs.Branches.{bool_called}
use Rattle.ahead.proofs.alone.contact.Statement.{statement}
use Rattle.ahead.proofs.alone.contact.Tie as tie

contact_from-requires : tie.Need-contact_from-requires
contact_from-requires c κs = bool_called _ _ _ c.before.begins.ensures c.if-begins.true

pub contact_spec : {M : Type 1} → statement M
contact_spec = tie.close (tie.spec (λ c κs. tt) (λ c κs. tt) contact_from-requires (λ c. c.contact_from.ensures) (λ c κs. tt) (λ c. c.bull_contact.ensures))
