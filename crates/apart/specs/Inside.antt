-- When a triangle surely lies apart from what is asked about; no answer is defined here.
use Rattle.std.specs.Prelude.{true, false, ◌≡◌, T, Float}
use Rattle.std.specs.Float.Ieee.{lt, le}
use Rattle.std.specs.Float.Ieee.Scale.{finite}
use Rattle.numbers.specs.Reals.{◌⊕◌, ◌⊖◌, ◌⊗◌, f0, f1, min_of, max_of}
use Rattle.plane.specs.Distance.{dist2_to_segment}

-- The coordinate at s of the way from a to b, as it is computed.
abbrev pub at : Float → Float → Float → Float
at a b s = a ⊕ s ⊗ (b ⊖ a)

-- The smaller and the larger of the way's two ends.
unfoldable pub low_on : Float → Float → Float
low_on a b = min_of a (at a b f1)

unfoldable pub high_on : Float → Float → Float
high_on a b = max_of a (at a b f1)

-- The smallest and the largest number on the ways between a, b and c.
unfoldable pub lowest_on : Float → Float → Float → Float
lowest_on a b c = min_of (min_of (low_on a b) (low_on b c)) (low_on c a)

unfoldable pub highest_on : Float → Float → Float → Float
highest_on a b c = max_of (max_of (high_on a b) (high_on b c)) (high_on c a)

-- A way that leads up, and one that leads down, whose square exceeds the limit.
abbrev pub Ahead : Float → Float → Type 0
Ahead d limit = (lt f0 d ≡ true) × (lt limit (d ⊗ d) ≡ true)

abbrev pub Behind : Float → Float → Type 0
Behind d limit = (lt d f0 ≡ true) × (lt limit (d ⊗ d) ≡ true)

-- The ways between a, b and c and the way from p to q end at finite numbers.
pub record Fine (a b c p q : Float) : Type 0 where
  pub ab : T (finite (at a b f1))
  pub bc : T (finite (at b c f1))
  pub ca : T (finite (at c a f1))
  pub pq : T (finite (at p q f1))

-- With x as one coordinate no point is within the limit of a segment that goes from p to q on that coordinate, whatever the other coordinates are.
abbrev pub Beyond : Float → Float → Float → Float → Type 0
Beyond p q limit x =
    (y p₁ q₁ : Float) → (le (dist2_to_segment x y p p₁ q q₁) limit ≡ false) × (le (dist2_to_segment y x p₁ p q₁ q) limit ≡ false)

-- The same of every point of the way from a to b, from 0 to 1 along it.
abbrev pub WayBeyond : Float → Float → Float → Float → Float → Type 0
WayBeyond p q limit a b = (s : Float) → le f0 s ≡ true → le s f1 ≡ true → Beyond p q limit (at a b s)

-- The corners a, b and c and the edges between them are.
pub record Apart (a b c p q limit : Float) : Type 0 where
  pub at_a : Beyond p q limit a
  pub at_b : Beyond p q limit b
  pub at_c : Beyond p q limit c
  pub ab : WayBeyond p q limit a b
  pub bc : WayBeyond p q limit b c
  pub ca : WayBeyond p q limit c a
