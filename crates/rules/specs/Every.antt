-- Tests of whole numbers, one by one and all of a range or of a list; and how often a number stands in a list.
use Rattle.std.specs.Prelude.{Bool, true, cond, ◌&&◌, List, [], ◌∷◌, ℕ, zero, suc, ◌+◌, leb, eqb}

-- k is one of the numbers from a to e, both included.
unfoldable pub is_from : ℕ → ℕ → ℕ → Bool
is_from a e k = leb a k && leb k e

-- the test holds of a, a + 1, .. n of them
unfoldable pub every : (ℕ → Bool) → ℕ → ℕ → Bool
every test a zero = true
every test a (suc n) = test a && every test (a + 1) n

-- the test holds of each number of a list
unfoldable pub each : (ℕ → Bool) → List ℕ → Bool
each test [] = true
each test (i ∷ is) = test i && each test is

-- 1 for what holds, 0 for what does not.
abbrev pub weight : Bool → ℕ
weight b = cond b 1 0

-- How often i stands in a list.
unfoldable pub times : ℕ → List ℕ → ℕ
times i [] = 0
times i (x ∷ xs) = weight (eqb i x) + times i xs
