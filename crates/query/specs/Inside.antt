-- What the test of a question's members promises inside: a sum of squares that is small settles a triangle's fourteen numbers at once, a member that passed
-- is not tested again while it is remembered, and what was tested makes a list for the walk.
use Rattle.std.specs.Prelude.{Bool, true, List, ◌++◌, ◌≡◌, ℕ, ◌≤◌, ◌<◌, length, get_or, Float}
use Rattle.numbers.specs.Reals.{◌⊕◌, ◌⊗◌}
use Rattle.rules.specs.Every.{times}
use Rattle.walk.specs.Inside.{StandsFor}

-- The sum of seven squares.
unfoldable pub seven_squares : Float → Float → Float → Float → Float → Float → Float → Float
seven_squares a b c d e f g = ((a ⊗ a ⊕ b ⊗ b) ⊕ (c ⊗ c ⊕ d ⊗ d)) ⊕ (e ⊗ e ⊕ f ⊗ f) ⊕ g ⊗ g

-- Each of 1,024 numbers of 16 bits passed the test; 65535 stands for none.
pub record Tested (test : ℕ → Bool) (recent : List ℕ) : Type 0 where
  pub size : length recent ≡ 1024
  pub each : (k : ℕ) → k < 1024 → get_or recent k 0 < 65535 → test (get_or recent k 0) ≡ true

-- Of the numbers `all`, gone through so far: each that is remembered is one of them, and the first `count` of `list` stand for them, unless there were too
-- many.
pub record Gathered (n : ℕ) (all recent list : List ℕ) (count : ℕ) : Type 0 where
  pub stood : (k : ℕ) → k < 1024 → get_or recent k 0 < 65535 → 0 < times (get_or recent k 0) all
  pub size : length list ≡ 2048
  pub most : count ≤ 2049
  pub listed : count ≤ 2048 → StandsFor n all list count

-- The numbers `part` are gone through: what was remembered and listed before, and after.
abbrev pub Adds : ℕ → List ℕ → List ℕ → List ℕ → ℕ → List ℕ → List ℕ → ℕ → Type 0
Adds n part recent list count recent' list' count' = (all : List ℕ) → Gathered n all recent list count → Gathered n (all ++ part) recent' list' count'
