-- Document 01, the row of `max_in_capsule`: the capsule that the disk sweeps, seen from above, and what its points make of a contact.
use Rattle.std.specs.Prelude.{Bool, true, cond, ◌≡◌, eqb, Float, None, Option}
use mathlib.Core.List.{List, [], ◌∷◌, Memᴰ}
use Rattle.std.specs.Float.Ieee.{lt, le, neg}
use Rattle.numbers.specs.Reals.{◌⊕◌, ◌⊖◌, ◌⊗◌, ◌⊘◌, f0}
use Rattle.roots.specs.Hypot.{hypot_of}
use Rattle.plane.specs.declared.Contact.{Contact}
use Rattle.plane.specs.Contacts.{take_of, at_height}
use Rattle.plane.specs.Distance.{dist2_to_segment}
use Rattle.capsule.specs.declared.Capsule.{Capsule}
use Rattle.capsule.specs.declared.Place.{Place}
use Rattle.capsule.specs.declared.Point.{Point}
use Rattle.capsule.specs.declared.Best.{Best}

-- the unit normal of a segment d of a length; 0 of a single point
unfoldable pub normal_of : Float → Float → Float → Place
normal_of dx dy len = cond (lt f0 len) (record { x = neg dy ⊘ len; y = dx ⊘ len }) (record { x = f0; y = f0 })

-- the capsule of radius r around p-q; eps is what still counts as inside
unfoldable pub capsule_of : Float → Float → Float → Float → Float → Float → Capsule
capsule_of px py qx qy r eps =
    let dx = qx ⊖ px in
    let dy = qy ⊖ py in
    let len = hypot_of dx dy in
    let n = normal_of dx dy len in
    record {
      px = px;
      py = py;
      qx = qx;
      qy = qy;
      r = r;
      limit = (r ⊕ eps) ⊗ (r ⊕ eps);
      len = len;
      nx = n.x;
      ny = n.y;
    }

-- whether (x, y) lies in the capsule
unfoldable pub in_capsule : Capsule → Float → Float → Bool
in_capsule k x y = le (dist2_to_segment x y k.px k.py k.qx k.qy) k.limit

-- a contact with one point more, which counts if it lies in the capsule
unfoldable pub offer_of : Capsule → Option Contact → Point → Option Contact
offer_of k c v = cond (in_capsule k v.x v.y) (take_of c v.z v.touch) c

-- a contact with all points of a list more, in their order: the highest of those in the capsule
unfoldable pub offered_all : Capsule → Option Contact → List Point → Option Contact
offered_all k c [] = c
offered_all k c (v ∷ vs) = offered_all k (offer_of k c v) vs

-- what the points of a list can make of no contact: none, or the height of one of them that lies in the capsule, with its touch
pub data Among (k : Capsule) (vs : List Point) : Option Contact → Type 0 where
  none : Among k vs None
  met : (v : Point) → Memᴰ v vs → in_capsule k v.x v.y ≡ true → Among k vs (at_height v.z v.touch)

-- the contact that a count of heights found and the best of them, with its touch, stand for
unfoldable pub contact_of : Best → Option Contact
contact_of b = cond (eqb b.found 0) None (at_height b.z b.touch)
