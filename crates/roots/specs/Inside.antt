-- What the functions inside `root` promise each other about exponents, and where normal numbers begin; then what those inside `hypot` do about magnitudes and
-- wide numbers.
use Rattle.std.specs.Prelude.{◌≡◌, ℕ, ◌+◌, ◌-◌, ◌*◌, ◌/◌, ◌%◌, ◌^◌, ◌<◌, ◌≤◌, false, cond, ◌⊎◌, ℤ, pos, negsuc, from_bits, nat_le, Float}
use Rattle.std.specs.Float.{inf, binary64}
use Rattle.roots.specs.Root.{Nearest}
use Rattle.roots.specs.Hypot.{hypot_of_count}

-- The exponents e of numbers above zero, as m * 2 ^ e with an m of 53 digits: from -1126, of the smallest f64, to 971.
unfoldable pub Exponent : ℤ → Type 0
Exponent (pos a) = a ≤ 971
Exponent (negsuc a) = a < 1126

-- e made a whole number by adding an even one, so that halves and remainders are those of e
unfoldable pub lifted : ℤ → ℕ
lifted (pos a) = a + 2096
lifted (negsuc a) = 2095 - a

-- 2 ^ -1022, from which on an f64 has a leading digit that its bits leave out
abbrev pub least_normal : Float
least_normal = from_bits binary64 0x10_0000_0000_0000

-- ---- hypot. The bits of an f64 without its sign are place * 2 ^ 52 + digits, the place being 0 or the digits 53; they stand for digits * 2 ^ place smallest
-- f64s. A subnormal has the place 0 as well.
abbrev pub place_of : ℕ → ℕ
place_of a = a / 2 ^ 52 - 1

abbrev pub digits_of : ℕ → ℕ
digits_of a = a - place_of a * 2 ^ 52

-- the bits of plus infinity
abbrev pub infinite_bits : ℕ
infinite_bits = 2047 * 2 ^ 52

-- hypot of two magnitudes by their bits, a being the larger
unfoldable pub of_sizes : ℕ → ℕ → Float
of_sizes a b =
    let p = digits_of a * 2 ^ place_of a in
    let q = digits_of b * 2 ^ place_of b in
    cond (nat_le infinite_bits a) (inf false) (hypot_of_count (p * p + q * q))

-- w is v / 2 ^ c, whole or with its last digit set in place of what was lost: it compares with every even number as v / 2 ^ c does.
abbrev pub Lowered : ℕ → ℕ → ℕ → Type 0
Lowered v w c = (v ≡ w * 2 ^ c) ⊎ ((w % 2 ≡ 1) × ((w - 1) * 2 ^ c < v) × (v < (w + 1) * 2 ^ c))

-- r is 0, or strictly nearest to the root of n / 4c
abbrev pub Settled : ℕ → ℕ → ℕ → Type 0
Settled r n c = (r ≡ 0) ⊎ ((0 < r) × ((2 * r - 1) * (2 * r - 1) * c < n) × (n < (2 * r + 1) * (2 * r + 1) * c))

-- r is 0, or b and b + 2 ^ 29 lie between the squares of the middles to its neighbours, taken four times
abbrev pub Clear : ℕ → ℕ → Type 0
Clear r b = (r ≡ 0) ⊎ ((0 < r) × ((2 * r - 1) * (2 * r - 1) < b) × (b + 2 ^ 29 ≤ (2 * r + 1) * (2 * r + 1)))

-- r has the digits of the whole number nearest to the root of w * 2 ^ 52, the last of them at the place p
abbrev pub RootAt : ℕ → ℕ → Float → Type 0
RootAt w p r = (s : ℕ) → Nearest (w * 2 ^ 52) s → r ≡ from_bits binary64 (p * 2 ^ 52 + s)

-- v is eight times what stands under the root: w * 2 ^ 52 where w is not 0, else m * m + n * n / 4 ^ k, lowered
abbrev pub UnderRoot : ℕ → ℕ → ℕ → ℕ → ℕ → Type 0
UnderRoot w m n k v = (w ≡ 0 → Lowered (8 * (m * m) * 2 ^ (2 * k) + 8 * (n * n)) v (2 * k)) × (0 < w → v ≡ 8 * (w * 2 ^ 52))
