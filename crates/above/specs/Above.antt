-- Document 01, "Questions": a triangle's contact is taken on top of the best so far. A best so far is itself a contact, so that a triangle's candidates can go
-- on from it: that gives the same as the triangle's own contact beside it (proofs/Above).
use Rattle.plane.specs.declared.Contact.{Contact}
use Rattle.plane.specs.Contacts.{take_of, at_height}
use Rattle.std.specs.Prelude.{Float, None, Option, Some}

-- A contact with one candidate more.
unfoldable pub offer_of : Option Contact → Option Contact → Option Contact
offer_of c None = c
offer_of c (Some m) = take_of c m.height m.touch

-- A best so far of the height z, as a contact that touches nothing: kind 0, as an answer tells the floor.
abbrev pub so_far : Float → Option Contact
so_far z = at_height z (record { kind = 0; which = 0 })
