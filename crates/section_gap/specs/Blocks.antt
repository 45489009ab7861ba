-- Document 01, row `sections_chord_clear`, for one triangle and one section: whether the triangle blocks the section on a chord. The gap has one maximum, which
-- is bounded from the last bracket of its search with no slope known beforehand (upright walls included).
use Rattle.std.specs.Prelude.{Bool, false, cond, Float, None, Option, Some}
use Rattle.std.specs.Float.Ieee.{lt, le}
use Rattle.numbers.specs.Reals.{◌⊕◌, ◌⊖◌, f0, min_of, max_of}
use Rattle.roots.specs.Hypot.{hypot_of}
use Rattle.plane.specs.declared.Triangle.{Triangle}
use Rattle.plane.specs.declared.Bounds.{Bounds}
use Rattle.golden.specs.Upper.{concave_max_upper}
use Rattle.cutters.specs.declared.Stretch.{Stretch}
use Rattle.cutters.specs.Touch.{along}
use Rattle.section.specs.declared.Section.{Section}
use Rattle.section.specs.Section.{section_contact}
use Rattle.reach.specs.declared.Chord.{Chord}
use Rattle.reach.specs.Reach.{stretch_of, gap_of}

-- How far the contact, lifted, stands above the tip at u.
unfoldable pub section_gap : Triangle → Chord → Section → Float → Float
section_gap t m k u = gap_of m u (section_contact t (along m.ax m.bx u) (along m.ay m.by u) k)

-- Whether it may stand above anywhere on the stretch.
unfoldable pub section_searched : Triangle → Chord → Section → Option Stretch → Bool
section_searched t m k None = false
section_searched t m k (Some n) = lt f0 (concave_max_upper (section_gap t m k) n.from n.to)

-- How far low..high lies from the values between a and b: 0 where they meet.
unfoldable pub side_gap : Float → Float → Float → Float → Float
side_gap low high a b = max_of (max_of (low ⊖ max_of a b) (min_of a b ⊖ high)) f0

-- Whether the triangle's box is farther from the chord's box than r.
unfoldable pub box_far : Bounds → Chord → Float → Bool
box_far b m r =
    lt r (hypot_of (side_gap b.low_x b.high_x m.ax m.bx) (side_gap b.low_y b.high_y m.ay m.by))

-- Whether a triangle, with its box b, blocks the section. A contact is at most the triangle's top less z0, so one that, lifted, is not above the lower tip does
-- not, nor does one whose box is beyond the section's reach.
unfoldable pub section_blocks : Triangle → Bounds → Chord → Section → Bool
section_blocks t b m k =
    cond (le (b.top ⊖ k.z0 ⊕ m.lift) (min_of m.az m.bz)) false
    (cond (box_far b m k.r1) false (section_searched t m k (stretch_of t m k.r1 60)))
