-- Document 01, "Questions": a contact is either none or a height. Document 02, request 5: with a height goes what is touched there.
use Rattle.std.specs.Prelude.{Bool, true, false, cond, ℕ, Float, None, Option, Some}
use Rattle.std.specs.Float.Ieee.{lt, is_nan}
use Rattle.plane.specs.declared.Best.{Best}
use Rattle.plane.specs.declared.Touch.{Touch}
use Rattle.plane.specs.declared.Contact.{Contact}

-- The three kinds of a touch. Corners and edges are counted from 0, in the triangle's order; edge k runs from corner k to k + 1, the last back to corner 0.
--
--     candidate                                              swept disk                        bull-nose and section
--     1 corner k   corner k itself                           corner k in the capsule           vertex k under the cutter
--     2 edge k     any place of edge k, its ends too         its crossings with circle, side   the search along it, also where it ends at an end or is lifted
--     3 face       the plane of the triangle                 its points over extreme points    where the cutter rests on the facet
abbrev pub corner : ℕ → Touch
corner k = record { kind = 1; which = k }

abbrev pub edge : ℕ → Touch
edge k = record { kind = 2; which = k }

abbrev pub face : Touch
face = record { kind = 3; which = 0 }

-- the triangle met at the height z, where t is touched
abbrev pub at_height : Float → Touch → Option Contact
at_height z t = Some (record { height = z; touch = t })

-- whether z takes the place of the height b: it is higher; of two that compare equal the first found stays. A NaN takes no place, and any number takes a NaN's.
unfoldable pub exceeds_of : Float → Float → Bool
exceeds_of z b = cond (is_nan b) (cond (is_nan z) false true) (lt b z)

-- a contact with one candidate more, of the height z and the touch t: the higher of the two, with its touch
unfoldable pub take_of : Option Contact → Float → Touch → Option Contact
take_of None z t = at_height z t
take_of (Some b) z t = cond (exceeds_of z b.height) (at_height z t) (Some b)

-- The best so far, with the height z of triangle i, which touches t: only a strictly higher one raises it, and is named from then on.
unfoldable pub raised_to : Float → Touch → ℕ → Best → Best
raised_to z t i best =
    cond (exceeds_of z best.height) (record { height = z; triangle = i; kind = t.kind; which = t.which }) best

-- The same with the contact of triangle i.
unfoldable pub raised_by : Option Contact → ℕ → Best → Best
raised_by None i best = best
raised_by (Some c) i best = raised_to c.height c.touch i best
