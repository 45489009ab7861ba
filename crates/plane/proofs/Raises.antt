-- One contact more, case by case.
use Rattle.std.specs.Prelude.{None, Option}
use mathlib.Core.Path.{◌≡◌}
use Prim.Native.Nat.{ℕ}
use lib.Ieee.{Float}
use Rattle.plane.specs.declared.Touch.{Touch}
use Rattle.plane.specs.declared.Contact.{Contact}
use Rattle.plane.specs.declared.Best.{Best}
use Rattle.plane.specs.Contacts.{raised_to, raised_by, at_height}

pub raised_not : (c : Option Contact) (i : ℕ) (b : Best) → c ≡ None → b ≡ raised_by c i b
unfolding raised_by
raised_not c i b e = rw e

pub raised_on : (c : Option Contact) (i : ℕ) (b r : Best) (z : Float) (t : Touch) → c ≡ at_height z t → r ≡ raised_to z t i b → r ≡ raised_by c i b
unfolding raised_by
raised_on c i b r z t e p = rw e p
