-- What a stretch of an edge adds to a contact.
use Rattle.std.specs.Prelude.{None, Option}
use mathlib.Core.Bool.{false}
use mathlib.Core.Path.{◌≡◌, sym, ◌∙◌}
use lib.Ieee.{Float}
use Rattle.rules.proofs.Branches.{left}
use Rattle.plane.specs.declared.Touch.{Touch}
use Rattle.plane.specs.declared.Contact.{Contact}
use Rattle.plane.specs.Contacts.{edge, take_of}
use Rattle.golden.specs.Search.{golden_max}
use Rattle.cutters.specs.declared.Edge.{Edge}
use Rattle.cutters.specs.declared.Stretch.{Stretch}
use Rattle.above.specs.Above.{offer_of}
use Rattle.above.specs.Inside.{limit_of}
use Rattle.cutters.specs.Touch.{distance_at, reached_of, from_to}
use Rattle.caps.specs.Inside.{Alike}
use Rattle.bull.specs.declared.Bull.{Bull}
use Rattle.bull.specs.declared.Way.{Way}
use Rattle.bull.specs.Bull.{bull_at, bull_stretch, too_low, bull_edge}
use Rattle.bull.specs.Inside.{way_of, way_at}

module _ (k : Bull) (e : Edge) (c : Option Contact) (s : Option Stretch) where
  pub nowhere_on : s ≡ None → c ≡ offer_of c (bull_stretch k e s)
  unfolding offer_of bull_stretch
  nowhere_on p = rw p

  pub between_on : (r : Option Contact) (lo hi : Float) → s ≡ from_to lo hi → r ≡ take_of c (golden_max (bull_at k e) lo hi 40) (edge e.which)
      → r ≡ offer_of c (bull_stretch k e s)
  unfolding offer_of bull_stretch
  between_on r lo hi p q = rw p q

-- the contact and the height, as calls answer them
pub taken_at : (r c : Option Contact) (z w b : Float) (t : Touch) → b ≡ limit_of c → Alike b z w → r ≡ take_of c z t → r ≡ take_of c w t
taken_at r c z w b t p q e = e ∙ q c t (sym p)

-- an edge that is not too low
pub edge_on : (k : Bull) (floor : Float) (c : Option Contact) (e : Edge) (s : Option Stretch) (r : Option Contact) → too_low floor c e ≡ false → s ≡ reached_of e k.x k.y k.r
    → r ≡ offer_of c (bull_stretch k e s) → r ≡ bull_edge k floor c e
unfolding bull_edge
edge_on k floor c e s r h p q = left _ _ _ _ h (rw p at q)

-- a search along an edge's way is one along the edge
pub along_way : (k : Bull) (e : Edge) (w : Way) (b lo hi r : Float) → w ≡ way_of e → Alike b r (golden_max (way_at k w) lo hi 40)
    → Alike b r (golden_max (bull_at k e) lo hi 40)
unfolding way_at bull_at distance_at
along_way k e w b lo hi r p q = rw p at q

pub way_at_lem : (k : Bull) (e : Edge) (w : Way) (t r : Float) → w ≡ way_of e → r ≡ way_at k w t → r ≡ bull_at k e t
unfolding way_at bull_at distance_at
way_at_lem k e w t r p q = rw p at q
