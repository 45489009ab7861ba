-- How much of a thing a file may have.
use Rattle.std.specs.Prelude.{Bool, true, cond, ℕ, ltb}
use Rattle.rules.specs.Limits.{most}

-- over 65,536 or over the lent room
unfoldable pub too_many : ℕ → ℕ → Bool
too_many n room = cond (ltb most n) true (ltb room n)
