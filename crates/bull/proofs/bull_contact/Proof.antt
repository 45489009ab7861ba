use Rattle.bull.specs.Bull.{bull_contact}
use Rattle.bull.proofs.bull_contact.Statement.{statement}
use Rattle.bull.proofs.bull_contact.Tie as tie

returns : tie.Need-returns
unfolding bull_contact
returns c = c.bull_contact_above.ensures

pub bull_contact_spec : {M : Type 1} → statement M
bull_contact_spec = tie.close (tie.spec (λ c κs. tt) returns)
