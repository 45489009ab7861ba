-- Document 02, request 6, and IEEE 754-2019, clause 9.2: hypot(x, y) is the f64 nearest to the exact root of x*x + y*y, ties to even, stated over whole
-- numbers by squares; plus infinity where that rounding leaves the range, and where either is infinite; else a NaN gives NaN. It can be computed: see Worked.
use Rattle.std.specs.Prelude.{◌≡◌, ℕ, ◌+◌, ◌-◌, ◌*◌, ◌/◌, ◌%◌, ◌^◌, ◌<◌, ◌≤◌, Bool, true, false, cond, ◌||◌, T, ◌⊎◌, is_nan, nat_lt, Float}
use Rattle.std.specs.Float.{nan, inf, fin, binary64}
use Rattle.std.specs.Float.Ieee.{up, down, size, units, le}
use Rattle.std.specs.Float.Ieee.Exact.{HasValue}
use Rattle.std.specs.Float.Ieee.Scale.{finite}
use Rattle.numbers.specs.Reals.{abs_of}
use Rattle.roots.specs.Root.{whole_root}

-- plus or minus infinity
unfoldable pub infinite : Float → Bool
infinite nan = false
infinite (inf s) = true
infinite (fin s m e) = false

-- The magnitude of a finite x, counted in smallest f64s, which are 2 ^ -1074. (Of what is not finite it is 0, and is not asked for.)
unfoldable pub count_of : Float → ℕ
count_of nan = 0
count_of (inf s) = 0
count_of (fin s m e) = m * up e * 2 ^ 1074 / down e

-- The whole number nearest to the root of n / 4 ^ k, for an n below 4 ^ (53 + k): with r the whole part of that root, r or r + 1 by how n compares
-- with the square of the middle, r + 1/2, both taken four times; at the middle the even one of the two.
unfoldable pub even_root : ℕ → ℕ → ℕ
even_root n k =
    let r = whole_root 53 (n / 4 ^ k) in
    let middle = (2 * r + 1) * (2 * r + 1) * 4 ^ k in
    cond (nat_lt (4 * n) middle) r (cond (nat_lt middle (4 * n)) (r + 1) (r + r % 2))

-- The root of n, in smallest f64s. An f64 keeps 53 digits of it; k are dropped. (`units` is plus infinity from 2 ^ 1024 on.)
unfoldable pub hypot_of_count : ℕ → Float
hypot_of_count n = let k = (size n - 105) / 2 in units binary64 false (even_root n k) k

-- hypot(x, y). An infinite x outweighs a y that is a NaN, and the other way round.
unfoldable pub hypot_of : Float → Float → Float
hypot_of x y = cond (infinite x || infinite y) (inf false) (cond (is_nan x || is_nan y) nan (hypot_of_count (count_of x * count_of x + count_of y * count_of y)))

-- q is the whole number nearest to the root of n / 4c, ties to even: n lies between (2 * q - 1)^2 * c and (2 * q + 1)^2 * c, the squares of the
-- middles to q's neighbours, all taken four times; and it is one of the two only where q is even.
pub record NearestEven (n c q : ℕ) : Type 0 where
  pub above : (2 * q - 1) * (2 * q - 1) * c ≤ n
  pub below : n ≤ (2 * q + 1) * (2 * q + 1) * c
  pub tie_above : (2 * q - 1) * (2 * q - 1) * c ≡ n → q % 2 ≡ 0
  pub tie_below : n ≡ (2 * q + 1) * (2 * q + 1) * c → q % 2 ≡ 0

-- What makes z the f64 nearest to the root of x*x + y*y, x and y being finite. Counted in smallest f64s their magnitudes are p and r, and z is q * 2
-- ^ k, q having 53 digits or k being 0; q is nearest by squares. Where q * 2 ^ k leaves the range, z is plus infinity. (At the least q of 53 digits
-- the lower neighbour is only half as far, but there p * p + r * r is not below the square of q: that is `least`.)
pub record HypotBetween (x y z : Float) : Type 0 where
  pub p : ℕ
  pub r : ℕ
  pub q : ℕ
  pub k : ℕ
  pub first : HasValue (abs_of x) false p (2 ^ 1074)
  pub second : HasValue (abs_of y) false r (2 ^ 1074)
  pub nearest : NearestEven (4 * (p * p + r * r)) (4 ^ k) q
  pub digits : (k ≡ 0) ⊎ (2 ^ 52 ≤ q)
  pub few : q ≤ 2 ^ 53
  pub least : (k ≡ 0) ⊎ (2 ^ 104 * 4 ^ k ≤ p * p + r * r)
  pub value : q * 2 ^ k < 2 ^ 2098 → HasValue z false (q * 2 ^ k) (2 ^ 1074)
  pub beyond : 2 ^ 2098 ≤ q * 2 ^ k → z ≡ inf false

-- u is finite, and at least as large as x
pub record Farther (x u : Float) : Type 0 where
  pub fine : T (finite u)
  pub size : T (le (abs_of x) (abs_of u))
