-- Roots keep the order, and so do counts of smallest f64s.
use mathlib.Core.Bool.{Bool, true, false}
use mathlib.Core.Path.{◌≡◌, refl, ap}
use Prim.Native.Nat.{ℕ, zero, suc, ◌+◌, ◌*◌, ◌^◌, ◌≤◌, ◌<◌}
use native.Mathlib.Nat.{zero-mul, zero-div, mul-pos}
use native.Mathlib.Omega.{arith}
use lib.Dec.{T, lt→ltb}
use lib.Ieee.{Float, nan, inf, fin, binary64, up, down, size, odd, units, le, fits}
use lib.Ieee.Exact.{HasValue}
use lib.Ieee.Fits.{up_pos, down_pos}
use lib.Ieee.Scale.{finite}
use Rattle.roots.specs.Root.{whole_root, root_of}
use Rattle.roots.specs.Hypot.{count_of, even_root, hypot_of_count, hypot_of}
use Rattle.roots.proofs.Between.{root_nearest}
use Rattle.roots.proofs.Monotone.{root_mono}
use Rattle.roots.proofs.Distances.{count_le, counts_mono, hypot_finite}
use Rattle.numbers.proofs.Signs.{le→under}
use Rattle.order.proofs.Signed.{le→parts, parts→le}
use Rattle.order.proofs.Order.{O, le_trans, no_lower, no_upper}

-- ---- roots
of_value : (w : Float) (a c : ℕ) → HasValue w false a c → T (le O w) × T (finite w)
of_value nan a c v = absurd v
of_value (inf s) a c v = absurd v
of_value (fin true n d) a c v = absurd (let k : ◌≡◌ {A = ℕ} 0 1 = cc in omega arith)
of_value (fin false n d) a c v = (parts→le O (fin false n d) tt tt (omega (arith, zero-mul (down d))), tt)

not_zero : (n : ℕ) (u : ℕ) → 0 < u → suc n * u ≡ 0 → ⊥
not_zero n u h e = omega (arith, mul-pos {m = suc n} {n = u} (omega arith) h)

pub root_finite : (y : Float) → T (fits binary64 y) → T (finite y) → T (le O y) → T (le O (root_of y)) × T (finite (root_of y))
unfolding root_of
root_finite nan g p h = absurd p
root_finite (inf s) g p h = absurd p
root_finite (fin s zero e) g p h = (h, tt)
root_finite (fin true (suc n) d) g p h = absurd (not_zero n (up d) (up_pos d) (no_lower (fin true (suc n) d) tt h))
root_finite (fin false (suc n) d) g p h = let b = root_nearest (fin false (suc n) d) g (lt→ltb 0 (suc n) (omega arith)) in
    of_value (root_of (fin false (suc n) d)) _ _ b.root

none_below : (s : Bool) (e : _) (w : Float) → T (le O w) → T (le (fin s 0 e) w)
none_below s e w h = le_trans (fin s 0 e) O w (at s) h
  where
    at : (s : Bool) → T (le (fin s 0 e) O)
    at true = parts→le (fin true 0 e) O tt tt (omega (arith, zero-mul (up e), zero-mul (down e)))
    at false = parts→le (fin false 0 e) O tt tt (omega (arith, zero-mul (up e), zero-mul (down e)))

too_large : (m u d : ℕ) → 0 < u → 0 < d → suc m * u * d ≤ 0 → ⊥
too_large m u d p q h = omega (arith, mul-pos {m = suc m * u} {n = d} (mul-pos {m = suc m} {n = u} (omega arith) p) q)

pub root_le : (x y : Float) → T (fits binary64 x) → T (fits binary64 y) → T (finite x) → T (finite y) → T (le O x) → T (le x y) → T (le (root_of x) (root_of y))
root_le nan y f g p q h k = absurd p
root_le (inf s) y f g p q h k = absurd p
root_le (fin s zero e) y f g p q h k = unfold root_of in none_below s e (root_of y) (root_finite y g q (le_trans O (fin s zero e) y h k)).0
root_le (fin true (suc m) e) y f g p q h k = absurd (not_zero m (up e) (up_pos e) (no_lower (fin true (suc m) e) tt h))
root_le (fin false (suc m) e) nan f g p q h k = absurd q
root_le (fin false (suc m) e) (inf s) f g p q h k = absurd q
root_le (fin false (suc m) e) (fin true n d) f g p q h k =
    absurd (too_large m (up e) (down d) (up_pos e) (down_pos d)
    (omega (arith, le→parts (fin false (suc m) e) (fin true n d) tt tt k, zero-mul (down d), zero-mul (down e))))
root_le (fin false (suc m) e) (fin false zero d) f g p q h k =
    absurd
    (too_large m (up e) (down d) (up_pos e) (down_pos d)
    (omega (
      arith,
      le→parts (fin false (suc m) e) (fin false 0 d) tt tt k,
      zero-mul (up d),
      zero-mul (down d),
      zero-mul (down e),
      ap (λ (z : ℕ). z * down e) (zero-mul (up d)),
    )))
root_le (fin false (suc m) e) (fin false (suc n) d) f g p q h k =
    root_mono (fin false (suc m) e) (fin false (suc n) d) f g (lt→ltb 0 (suc m) (omega arith)) (lt→ltb 0 (suc n) (omega arith)) k

-- ---- counts of smallest f64s
pub no_count : (s : Bool) (m : ℕ) (e : _) (n : ℕ) → m * up e ≡ 0 → count_of (fin s m e) ≤ n
unfolding count_of
no_count s m e n z = rw (z, zero-mul (2 ^ 1074), zero-div (down e)) (omega arith)

-- from 0 upwards, and downwards
pub count_rises : (x y : Float) → T (finite x) → T (finite y) → T (le O x) → T (le x y) → count_of x ≤ count_of y
count_rises nan y p q h k = absurd p
count_rises (inf s) y p q h k = absurd p
count_rises (fin s m e) nan p q h k = absurd q
count_rises (fin s m e) (inf t) p q h k = absurd q
count_rises (fin true m e) (fin t n d) p q h k = no_count true m e _ (no_lower (fin true m e) tt h)
count_rises (fin false m e) (fin false n d) p q h k = count_le false m e false n d (le→under false m e false n d k)
count_rises (fin false m e) (fin true n d) p q h k = no_count false m e _ (le→under false m e true n d k).0

pub count_falls : (x y : Float) → T (finite x) → T (finite y) → T (le y O) → T (le x y) → count_of y ≤ count_of x
count_falls nan y p q h k = absurd p
count_falls (inf s) y p q h k = absurd p
count_falls (fin s m e) nan p q h k = absurd q
count_falls (fin s m e) (inf t) p q h k = absurd q
count_falls (fin s m e) (fin false n d) p q h k = no_count false n d _ (no_upper (fin false n d) tt h)
count_falls (fin true m e) (fin true n d) p q h k = count_le true n d true m e (le→under true m e true n d k)
count_falls (fin false m e) (fin true n d) p q h k = no_count true n d _ (le→under false m e true n d k).1

-- ---- a distance is not below 0
no_distance : hypot_of_count 0 ≡ O
unfolding hypot_of_count even_root whole_root size units odd
no_distance = refl

pub distance_low : (x y : Float) → T (finite x) → T (finite y) → T (le O (hypot_of x y))
distance_low x y p q = rw (hypot_finite x y p q) (rw no_distance at (counts_mono 0 (count_of x * count_of x + count_of y * count_of y) (omega arith)))
