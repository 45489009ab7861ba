-- How near a parabola lies to 1 / sqrt(z). No answer turns on it: it keeps the root's search from starting far off, which would only cost time.
use Rattle.std.specs.Prelude.{Bool, true, cond, ◌&&◌, ℕ, ◌+◌, ◌-◌, ◌*◌, ◌^◌, leb, ltb, Float}
use Rattle.std.specs.Float.Ieee.Positive.{num, den}

-- Whether a - b * z + c * z * z lies within 2 ^ -15 of 1 / sqrt(z), for z = n / d: p / q being the parabola's value there, one is between z times the squares
-- of p / q less and p / q more 2 ^ -15.
unfoldable pub is_near : Float → Float → Float → ℕ → ℕ → Bool
is_near a b c n d =
    let p = num a * den b * den c * d * d + num c * den a * den b * n * n - num b * den a * den c * n * d in
    let q = den a * den b * den c * d * d in
    let s = q * 2 ^ 15 in
    leb ((p * 2 ^ 15 - q) * (p * 2 ^ 15 - q) * n) (s * s * d) && leb (s * s * d) ((p * 2 ^ 15 + q) * (p * 2 ^ 15 + q) * n)

-- The same at the ends of a stretch from n / d to (n + 4) / d, at its middle and its quarters.
unfoldable pub is_near_by : Float → Float → Float → ℕ → ℕ → Bool
is_near_by a b c n d = is_near a b c n d && (is_near a b c (n + 1) d && (is_near a b c (n + 2) d && (is_near a b c (n + 3) d && is_near a b c (n + 4) d)))

-- The same of stretch i: the first 8 share out 1/2 to 1, the others 1 to 2. Past the last there is nothing to keep.
unfoldable pub is_curve : ℕ → Float → Float → Float → Bool
is_curve i a b c = cond (ltb i 8) (is_near_by a b c (4 * (8 + i)) 64) (cond (ltb i 16) (is_near_by a b c (4 * i) 32) true)
