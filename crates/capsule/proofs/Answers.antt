-- Whatever the points of a list make of no contact is the height of one of them.
use Rattle.std.specs.Prelude.{None, Option}
use mathlib.Core.Bool.{true}
use mathlib.Core.List.{List, [], ◌∷◌, Memᴰ}
use mathlib.Core.Path.{◌≡◌, refl}
use Rattle.rules.proofs.Branches.{either}
use Rattle.plane.specs.declared.Triangle.{Triangle}
use Rattle.plane.specs.declared.Contact.{Contact}
use Rattle.plane.specs.Contacts.{exceeds_of, take_of, at_height}
use Rattle.capsule.specs.declared.Capsule.{Capsule}
use Rattle.capsule.specs.declared.Point.{Point}
use Rattle.capsule.specs.Region.{in_capsule, offer_of, offered_all, Among, none, met}
use Rattle.capsule.specs.Candidates.{candidates, highest_in}

module _ (k : Capsule) (all : List Point) where
  taking : (c : Option Contact) (v : Point) → Memᴰ v all → in_capsule k v.x v.y ≡ true → Among k all c → Among k all (take_of c v.z v.touch)
  unfolding take_of
  taking _ v m h none = met v m h
  taking _ v m h (met u n g) =
      either (λ d. Among k all d) (exceeds_of v.z u.z) (at_height v.z v.touch) (at_height u.z u.touch) (λ _. met v m h) (λ _. met u n g)

  gathering : (c : Option Contact) (vs : List Point) → ((v : Point) → Memᴰ v vs → Memᴰ v all) → Among k all c → Among k all (offered_all k c vs)
  unfolding offered_all offer_of
  gathering c [] within a = a
  gathering c (v ∷ vs) within a =
      gathering (offer_of k c v) vs (λ u m. within u (Memᴰ.tail m))
      (either (λ d. Among k all d) (in_capsule k v.x v.y) (take_of c v.z v.touch) c
      (λ h. taking c v (within v (Memᴰ.head refl)) h a)
      (λ _. a))

pub highest_among : (k : Capsule) (t : Triangle) → Among k (candidates k t) (highest_in k t)
unfolding highest_in
highest_among k t = gathering k (candidates k t) None (candidates k t) (λ v m. m) none
