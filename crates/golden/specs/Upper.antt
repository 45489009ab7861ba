-- Document 01, row `concave_max_upper`: an upper bound of a concave objective's maximum on lo..hi, with no slope known beforehand. Values may be minus infinity
-- at the ends.
use Rattle.std.specs.Prelude.{Bool, true, false, cond, ◌&&◌, ℕ, zero, suc, ◌≡◌, refl, Float}
use Rattle.std.specs.Float.{inf}
use Rattle.std.specs.Float.Ieee.{of_bits, div, lt, eq, neg}
use Rattle.numbers.specs.Reals.{◌⊕◌, ◌⊖◌, ◌⊗◌, ◌⊘◌, f0, f1, minus1, max_of, min_of}
use Rattle.golden.specs.declared.Golden.{Golden}
use Rattle.golden.specs.declared.Bracket.{Bracket}
use Rattle.golden.specs.Search.{rises, golden_start, golden_step, best_of}

-- The infinities, as the code makes them: 1 / 0 and -1 / 0.
abbrev pub infinity : Float
infinity = f1 ⊘ f0

abbrev pub minus_infinity : Float
minus_infinity = minus1 ⊘ f0

-- Neither infinite nor a NaN.
unfoldable pub finite_of : Float → Bool
finite_of x = lt minus_infinity x && lt x infinity

-- The search's bracket once it has gone on to g, with the values at its two ends.
unfoldable pub held_of : Bracket → Golden → Bracket
held_of s g =
    cond (rises s.g)
    (record { g = g; fa = s.g.f1; fb = s.fb })
    (record { g = g; fa = s.fa; fb = s.g.f2 })

unfoldable pub bracket_start : (Float → Float) → Float → Float → Bracket
bracket_start f lo hi = record { g = golden_start f lo hi; fa = f lo; fb = f hi }

unfoldable pub bracket_step : (Float → Float) → Bracket → Bracket
bracket_step f s = held_of s (golden_step rises f s.g)

-- The inner points stand apart; once they meet the search breaks off.
abbrev pub apart : Bracket → Bool
apart s = lt s.g.x1 s.g.x2

-- At most n steps: after each the search goes on only if the inner points stand apart.
unfoldable pub bracket_run : (Float → Float) → ℕ → Bracket → Bracket
bracket_run f zero s = s
bracket_run f (suc n) s = let t = bracket_step f s in cond (apart t) (bracket_run f n t) t

-- The secant's slope from (xa, ya) to (xb, yb).
abbrev pub slope : Float → Float → Float → Float → Float
slope xa ya xb yb = (yb ⊖ ya) ⊘ (xb ⊖ xa)

-- Whether all three values are minus infinity.
unfoldable pub all_low : Float → Float → Float → Bool
all_low v1 v2 best = eq v1 minus_infinity && (eq v2 minus_infinity && eq best minus_infinity)

-- A concave function lies below each secant's extension: between a and x1 below the secant of x1 and x2, extended to the left, and between x2 and b below the
-- same secant, extended to the right.
unfoldable pub outer_of : Float → Golden → Float
outer_of best g =
    let s = slope g.x1 g.f1 g.x2 g.f2 in
    let left = g.f1 ⊕ max_of (neg s) f0 ⊗ (g.x1 ⊖ g.a) in
    let right = g.f2 ⊕ max_of s f0 ⊗ (g.b ⊖ g.x2) in
    max_of (max_of best left) right

-- Between x1 and x2: below the secant of a and x1, extended to the right; nothing is known where the value at a is not finite.
unfoldable pub from_a : Float → Golden → Float
from_a fa g =
    cond (finite_of fa) (g.f1 ⊕ max_of (slope g.a fa g.x1 g.f1) f0 ⊗ (g.x2 ⊖ g.x1)) infinity

-- And below the secant of x2 and b, extended to the left.
unfoldable pub from_b : Float → Golden → Float
from_b fb g =
    cond (finite_of fb) (g.f2 ⊕ max_of (neg (slope g.x2 g.f2 g.b fb)) f0 ⊗ (g.x2 ⊖ g.x1)) infinity

-- The largest of the best value and the bounds of the three stretches.
unfoldable pub secants_of : Bracket → Float → Float
secants_of s best = max_of (outer_of best s.g) (min_of (from_a s.fa s.g) (from_b s.fb s.g))

-- The bound. Where an inner value is not finite nothing is bounded, unless all values are minus infinity; where the inner points have met it is the best value.
unfoldable pub upper_from : Bracket → Float → Float
upper_from s best =
    cond (finite_of s.g.f1 && finite_of s.g.f2)
    (cond (apart s) (secants_of s best) best)
    (cond (all_low s.g.f1 s.g.f2 best) best infinity)

unfoldable pub upper_of : Bracket → Float
upper_of s = upper_from s (best_of s.fa s.fb s.g.f1 s.g.f2)

-- concave_max_upper: where hi is not above lo, just the ends.
unfoldable pub concave_max_upper : (Float → Float) → Float → Float → Float
concave_max_upper f lo hi =
    cond (lt lo hi) (upper_of (bracket_run f 60 (bracket_start f lo hi))) (max_of (f lo) (f hi))

-- What the two infinities are.
infinity_is : infinity ≡ inf false
unfolding of_bits div
infinity_is = refl

minus_infinity_is : minus_infinity ≡ inf true
unfolding of_bits div
minus_infinity_is = refl
