-- What the parts of the search promise each other, so that a candidate is left out where it changes nothing; no answer is defined here.
use Rattle.std.specs.Prelude.{Bool, true, false, cond, List, [], ◌∷◌, ◌≡◌, T, Float, Option}
use Rattle.std.specs.Float.Ieee.{lt, le}
use Rattle.std.specs.Float.Ieee.Scale.{finite}
use Rattle.numbers.specs.Reals.{◌⊕◌, ◌⊗◌, f0, f1, minus1}
use Rattle.plane.specs.declared.Touch.{Touch}
use Rattle.plane.specs.declared.Triangle.{Triangle}
use Rattle.plane.specs.declared.Contact.{Contact}
use Rattle.plane.specs.Contacts.{take_of, at_height}
use Rattle.above.specs.Above.{offer_of, so_far}
use Rattle.capsule.specs.declared.Capsule.{Capsule}
use Rattle.capsule.specs.declared.Place.{Place}
use Rattle.capsule.specs.declared.Edge.{Edge}
use Rattle.capsule.specs.declared.Rise.{Rise}
use Rattle.capsule.specs.Candidates.{corner_a, corner_b, corner_c, edge_of, flank}
use Rattle.capsule.specs.Region.{in_capsule}

-- A contact on top of a best so far of the height z.
abbrev pub on_top : Float → Option Contact → Option Contact
on_top z c = offer_of (so_far z) c

-- r says whether the height z takes the place of a contact, whatever it touches.
abbrev pub Higher : Option Contact → Float → Bool → Type 0
Higher c z r = (t : Touch) → take_of c z t ≡ cond r (at_height z t) c

-- No point of an edge, from 0 to 1 along it, takes the place of a contact.
abbrev pub NotAbove : Option Contact → Edge → Type 0
NotAbove c e = (s : Float) → le f0 s ≡ true → le s f1 ≡ true → (t : Touch) → take_of c (e.z ⊕ s ⊗ e.dz) t ≡ c

-- No point of an edge, from 0 to 1 along it, lies in the capsule.
abbrev pub Outside : Capsule → Edge → Type 0
Outside k e = (s : Float) → le f0 s ≡ true → le s f1 ≡ true → in_capsule k (e.x ⊕ s ⊗ e.dx) (e.y ⊕ s ⊗ e.dy) ≡ false

-- No corner of a triangle lies in the capsule, and no point of an edge.
pub record Away (k : Capsule) (t : Triangle) : Type 0 where
  pub a : in_capsule k t.ax t.ay ≡ false
  pub b : in_capsule k t.bx t.by ≡ false
  pub c : in_capsule k t.cx t.cy ≡ false
  pub ab : Outside k (edge_of 0 (corner_a t) (corner_b t))
  pub bc : Outside k (edge_of 1 (corner_b t) (corner_c t))
  pub ca : Outside k (edge_of 2 (corner_c t) (corner_a t))

-- Neither is infinite or a NaN.
abbrev pub Ordinary : Float → Float → Type 0
Ordinary a b = T (finite a) × T (finite b)

-- The end p of the segment.
abbrev pub centre : Capsule → Place
centre k = record { x = k.px; y = k.py }

-- A capsule around a single point: its ends and its side ends are one place.
pub record Single (k : Capsule) : Type 0 where
  pub x : k.px ≡ k.qx
  pub y : k.py ≡ k.qy
  pub right : centre k ≡ flank k k.px k.py minus1
  pub left : centre k ≡ flank k k.px k.py f1

-- The extreme points that are left then: the centre, and its tangent point if the triangle is not level.
unfoldable pub firsts : Capsule → Rise → List Place
firsts k h = centre k ∷ cond (lt f0 h.g) (record { x = k.px ⊕ h.x; y = k.py ⊕ h.y } ∷ []) []
