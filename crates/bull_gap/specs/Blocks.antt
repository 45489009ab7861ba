-- Document 01, row `bull_chord_clear`, for one triangle: whether it blocks a bull-nose cutter on a chord. The contact's height along a chord is concave and the
-- tip's is linear, so their difference has one maximum.
use Rattle.std.specs.Prelude.{Bool, false, cond, Float, None, Option, Some}
use Rattle.std.specs.Float.Ieee.{lt, le}
use Rattle.numbers.specs.Reals.{◌⊕◌, f0, min_of}
use Rattle.plane.specs.declared.Triangle.{Triangle}
use Rattle.golden.specs.Search.{golden_max}
use Rattle.cutters.specs.declared.Stretch.{Stretch}
use Rattle.cutters.specs.Touch.{along}
use Rattle.bull.specs.Bull.{bull_contact}
use Rattle.reach.specs.declared.Chord.{Chord}
use Rattle.reach.specs.Reach.{stretch_of, gap_of}

-- How far the contact, lifted, stands above the tip at s.
unfoldable pub bull_gap : Triangle → Chord → Float → Float → Float → Float
bull_gap t m r rc s =
    gap_of m s (bull_contact t (record { x = along m.ax m.bx s; y = along m.ay m.by s; r = r; rc = rc }))

-- Whether it stands above anywhere on the stretch: a search of 40 steps.
unfoldable pub bull_searched : Triangle → Chord → Float → Float → Option Stretch → Bool
bull_searched t m r rc None = false
bull_searched t m r rc (Some n) = lt f0 (golden_max (bull_gap t m r rc) n.from n.to 40)

-- Whether a triangle with the top `top` blocks the chord. Contacts never exceed the triangle's top, so one whose top, lifted, is not above the lower tip does
-- not.
unfoldable pub bull_blocks : Triangle → Float → Chord → Float → Float → Bool
bull_blocks t top m r rc =
    cond (le (top ⊕ m.lift) (min_of m.az m.bz)) false (bull_searched t m r rc (stretch_of t m r 50))
