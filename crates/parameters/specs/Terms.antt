-- Document 01, "Levels and runs" and "Refusal numbers": a plan's parameters (9), and what its levels must be (11, 10, 12).
use Rattle.std.specs.Prelude.{Bool, false, ◌&&◌, ◌||◌, List, [], ◌∷◌, ℕ, ltb, Float, length}
use Rattle.std.specs.Float.Ieee.{lt, le}
use Rattle.numbers.specs.Reals.{◌⊖◌, ◌⊗◌, f0, f2, f16, finest, coarsest, tenth}
use Rattle.plane.specs.Ranges.{is_coordinate}
use Rattle.levels.specs.declared.Level.{Level}
use Rattle.rows.specs.declared.Axis.{Axis}
use Rattle.rows.specs.Lanes.{spread_of, intervals_of, step_of, samples_of}
use Rattle.rules.specs.Ladder.{refuse}
use Rattle.parameters.specs.declared.Parameters.{Parameters}

-- ---- 9

-- All numbers finite, magnitude at most 1e6.
unfoldable pub are_three : Float → Float → Float → Bool
are_three a b c = is_coordinate a && (is_coordinate b && is_coordinate c)

unfoldable pub are_numbers : Parameters → Bool
are_numbers p =
    are_three p.tolerance p.level_tolerance p.stepover
    && (is_coordinate p.stock_to_leave && are_three p.stock_bottom p.stock_top p.cutting_length)

-- Tolerance 1e-7 to 0.01; 16 * tolerance < stepover <= 2r.
unfoldable pub are_steps : Parameters → Float → Bool
are_steps p r =
    le finest p.tolerance
    && (le p.tolerance coarsest && (lt (f16 ⊗ p.tolerance) p.stepover && le p.stepover (f2 ⊗ r)))

-- Stock to leave >= 0; tolerance <= level tolerance <= 0.1; stock bottom <= header floor < stock top.
unfoldable pub are_heights : Parameters → Float → Bool
are_heights p floor =
    le f0 p.stock_to_leave
    && (le p.tolerance p.level_tolerance
    && (le p.level_tolerance tenth && (le p.stock_bottom floor && lt floor p.stock_top)))

-- What 9 demands, with the header's radius and floor.
unfoldable pub are_terms : Parameters → Float → Float → Bool
are_terms p r floor = are_numbers p && (are_steps p r && are_heights p floor)

-- ---- 10 and 12

-- A level above stock top, or deeper than cutting length - 16 * tolerance.
unfoldable pub too_deep : Parameters → Level → Bool
too_deep p l = lt p.stock_top l.z || lt (p.cutting_length ⊖ f16 ⊗ p.tolerance) (p.stock_top ⊖ l.z)

-- Intervals or samples over 65,535.
unfoldable pub too_fine : Parameters → Axis → Float → Level → Bool
too_fine p axis r l =
    let s = spread_of axis r l in
    ltb 65535 (intervals_of s p.stepover) || ltb 65535 (samples_of s (step_of p.stepover r))

-- Whether the test holds of a level.
unfoldable pub any_of : (Level → Bool) → List Level → Bool
any_of test [] = false
any_of test (l ∷ ls) = test l || any_of test ls

-- 11 more levels than room; 10; 12; 0 where none is given.
unfoldable pub refusal_of_levels : ℕ → Parameters → Axis → Float → List Level → ℕ
refusal_of_levels room p axis r ls =
    refuse (ltb room (length ls)) 11
    (refuse (any_of (too_deep p) ls) 10
    (refuse (any_of (too_fine p axis r) ls) 12
    0))
