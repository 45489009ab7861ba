-- Document 01, rows `bull_chord_clear` and `sections_chord_clear`: where along a chord a triangle is within a cutter's reach. The distance in plan from a
-- triangle is convex along a chord, so that is one stretch around the closest approach.
use Rattle.std.specs.Prelude.{cond, ℕ, zero, suc, Float, None, Option, Some}
use Rattle.std.specs.Float.Ieee.{lt, le}
use Rattle.numbers.specs.Reals.{◌⊕◌, ◌⊖◌, ◌⊘◌, f0, f1, f2}
use Rattle.plane.specs.declared.Triangle.{Triangle}
use Rattle.plane.specs.declared.Contact.{Contact}
use Rattle.plane.specs.Distance.{distance_xy}
use Rattle.golden.specs.Search.{golden_argmin}
use Rattle.golden.specs.Upper.{minus_infinity}
use Rattle.cutters.specs.declared.Stretch.{Stretch}
use Rattle.cutters.specs.Touch.{along, from_to}
use Rattle.reach.specs.declared.Chord.{Chord}
use Rattle.reach.specs.declared.Span.{Span}

-- The distance in plan of a triangle from the chord's point at s.
unfoldable pub apart_at : Triangle → Chord → Float → Float
apart_at t m s = distance_xy t (along m.ax m.bx s) (along m.ay m.by s)

-- The closest approach, from a search of n steps.
unfoldable pub near_of : Triangle → Chord → ℕ → Float
near_of t m n = golden_argmin (apart_at t m) f0 f1 n

-- One step between a place inside the reach r and one outside: the middle takes the place of the one that it is like.
unfoldable pub halved_of : Triangle → Chord → Float → Span → Span
halved_of t m r s =
    let middle = (s.inside ⊕ s.outside) ⊘ f2 in
    cond (le (apart_at t m middle) r)
    (record { inside = middle; outside = s.outside })
    (record { inside = s.inside; outside = middle })

-- The two places after n such steps.
unfoldable pub span_at : Triangle → Chord → Float → Span → ℕ → Span
span_at t m r s zero = s
span_at t m r s (suc n) = halved_of t m r (span_at t m r s n)

-- The end of the stretch towards `outside`: that end itself where it is within reach, else 60 steps of halving.
unfoldable pub rim_of : Triangle → Chord → Float → Float → Float → Float
rim_of t m r inside outside =
    cond (le (apart_at t m outside) r) outside (span_at t m r (record { inside = inside; outside = outside }) 60).inside

-- The stretch of the chord where the triangle is within r, around the closest approach; none where even that is farther.
unfoldable pub stretch_from : Triangle → Chord → Float → Float → Option Stretch
stretch_from t m r near =
    cond (lt r (apart_at t m near)) None (from_to (rim_of t m r near f0) (rim_of t m r near f1))

unfoldable pub stretch_of : Triangle → Chord → Float → ℕ → Option Stretch
stretch_of t m r n = stretch_from t m r (near_of t m n)

-- How far the height z, lifted, stands above the tip at s.
unfoldable pub above_of : Chord → Float → Float → Float
above_of m s z = z ⊕ m.lift ⊖ along m.az m.bz s

-- The same of the contact c: minus infinity where there is none.
unfoldable pub gap_of : Chord → Float → Option Contact → Float
gap_of m s None = minus_infinity
gap_of m s (Some n) = above_of m s n.height
