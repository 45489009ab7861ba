-- A contact raises the best so far by as much where its candidates were taken on top of it.
use Rattle.std.specs.Prelude.{None, Option, Some}
use mathlib.Core.Path.{◌≡◌, refl, sym, ◌∙◌}
use Prim.Native.Nat.{ℕ}
use Rattle.plane.specs.declared.Contact.{Contact}
use Rattle.above.specs.Above.{offer_of, so_far}
use Rattle.above.proofs.Above.{raising, raises_same}
use Rattle.plane.specs.declared.Best.{Best}
use Rattle.plane.specs.Contacts.{raised_to, raised_by}

raised_is : (c : Option Contact) (i : ℕ) (b : Best)
    → raised_by c i b ≡ raising b.height (λ z t. record { height = z; triangle = i; kind = t.kind; which = t.which }) b c
unfolding raised_by raised_to raising
raised_is None i b = refl
raised_is (Some m) i b = refl

pub raised_beside : (c : Option Contact) (i : ℕ) (b : Best) → raised_by (offer_of (so_far b.height) c) i b ≡ raised_by c i b
raised_beside c i b = raised_is (offer_of (so_far b.height) c) i b ∙ raises_same b.height _ _ b c ∙ sym (raised_is c i b)
