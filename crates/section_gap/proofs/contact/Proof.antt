use Rattle.std.specs.Prelude.{Option}
use mathlib.Core.Path.{◌≡◌}
use Rattle.rules.proofs.Branches.{bool_called}
use Rattle.plane.specs.declared.Contact.{Contact}
use Rattle.above.specs.Above.{offer_of}
use Rattle.above.proofs.Above.{own}
use Rattle.section_gap.proofs.contact.Statement.{statement}
use Rattle.section_gap.proofs.contact.Tie as tie

begun : (b s c r : Option Contact) → b ≡ s → r ≡ offer_of b c → r ≡ offer_of s c
begun b s c r q e = rw q at e

returns : tie.Need-returns-then-touches
returns c =
    own _ _ _ (begun _ _ _ _ c.before.before.before.so_far-on.ensures c.before.before.section_contact_on-c.ensures)
    (bool_called _ _ _ c.before.touches.ensures c.if-touches.true)

pub contact_spec : {M : Type 1} → statement M
contact_spec = tie.close (tie.spec (λ c κs. tt) (λ c κs. tt) (λ c κs. tt) (λ c κs. tt) returns (λ c κs. tt) (λ c. c.section_contact.ensures))
