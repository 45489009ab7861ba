-- What one candidate more makes of a contact, case by case.
use Rattle.std.specs.Prelude.{None, Option}
use mathlib.Core.Bool.{true, false}
use mathlib.Core.Path.{◌≡◌}
use lib.Ieee.{Float}
use Rattle.plane.specs.declared.Touch.{Touch}
use Rattle.plane.specs.declared.Contact.{Contact}
use Rattle.plane.specs.Contacts.{exceeds_of, take_of, at_height}

module _ (c : Option Contact) (z : Float) (t : Touch) where
  pub first_taken : c ≡ None → at_height z t ≡ take_of c z t
  unfolding take_of
  first_taken p = rw p

  pub next_taken : (b : Float) (s : Touch) → c ≡ at_height b s → exceeds_of z b ≡ true → at_height z t ≡ take_of c z t
  unfolding take_of
  next_taken b s p e = rw (p, e)

  pub next_left_lem : (b : Float) (s : Touch) → c ≡ at_height b s → exceeds_of z b ≡ false → at_height b s ≡ take_of c z t
  unfolding take_of
  next_left_lem b s p e = rw (p, e)
