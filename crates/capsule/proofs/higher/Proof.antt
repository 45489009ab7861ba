use borrow.Author.Tests.{eq-eqb, ne_eqb}
use Rattle.capsule.specs.Region.{contact_of}
use Rattle.plane.specs.Contacts.{take_of}
use Rattle.capsule.proofs.higher.Statement.{statement}
use Rattle.capsule.proofs.higher.Tie as tie

returns : tie.Need-returns-then-b-eq0
unfolding contact_of take_of
returns c t = rw (eq-eqb _ _ c.if-b-eq0.true)

returns-2 : tie.Need-returns
unfolding contact_of take_of
returns-2 c t = rw (ne_eqb _ _ c.before.if-b-eq0.false, c.exceeds.ensures)

pub higher_spec : {M : Type 1} → statement M
higher_spec = tie.close (tie.spec returns (λ c κs. tt) returns-2)
