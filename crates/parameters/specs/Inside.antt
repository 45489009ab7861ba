-- What the parts of the tests promise each other: the levels in a table.
use Rattle.std.specs.Prelude.{List, [], ◌∷◌, ℕ, zero, suc, ◌+◌, ltb, Float}
use Rattle.levels.specs.declared.Level.{Level}
use Rattle.levels.specs.Inside.{level_in}
use Rattle.fives.specs.Tables.{room_of}
use Rattle.rules.specs.Ladder.{refuse}
use Rattle.rows.specs.declared.Axis.{Axis}
use Rattle.parameters.specs.declared.Parameters.{Parameters}
use Rattle.parameters.specs.Terms.{too_deep, too_fine, any_of}

-- Levels m, m + 1, .. n of them.
unfoldable pub levels_in : List Float → ℕ → ℕ → List Level
levels_in t m zero = []
levels_in t m (suc n) = level_in t m ∷ levels_in t (m + 1) n

-- The refusals of the first `count` levels of a table.
unfoldable pub refusal_of_count : List Float → ℕ → Parameters → Axis → Float → ℕ
refusal_of_count t count p axis r =
    refuse (ltb (room_of t) count) 11
    (refuse (any_of (too_deep p) (levels_in t 0 count)) 10
    (refuse (any_of (too_fine p axis r) (levels_in t 0 count)) 12
    0))
