-- The root of a square: of a number from 2 ^ -511 to 1e6 the root of its square, both rounded, is not above the number. With 53 digits m the square is m * m,
-- off by half a unit of its last digit at most, which is at most m / 2; so the whole number nearest to its root is m again.
use mathlib.Core.Bool.{false, not}
use mathlib.Core.Path.{◌≡◌, refl, sym, ap, ◌∙◌, subst}
use Prim.Native.Nat.{ℕ, zero, suc, ◌+◌, ◌-◌, ◌*◌, ◌/◌, ◌%◌, ◌^◌, ◌≤◌, ◌<◌, compare, Ordering}
use native.Mathlib.Nat.{le_trans, le_of_eq, lt_of_lt_of_le, lt_of_le_of_lt, lt_of_not-le, lt_irrefl, mul_assoc, mul_comm, mul-one, mul-le-mul}
use native.Mathlib.Nat.{mul-le-mul_right, mul-div_cancel, mul-mul-mul_comm, mul_right_comm, suc-mul, add-mul, mod-lt, div-add-mod', mul-pos}
use native.Mathlib.Omega.{arith}
use lib.Arith.{lt_of_le-ne}
use lib.Dec.{T, is_le, compare_is_eq, eqb, leb→le, nleb→lt, eqb→eq, eqb_refl, lit<}
use lib.IntN.{negsuc}
use lib.Pow.{pow-add, pow_pos, pow_mono, shl_lt}
use lib.Ieee.{Float, fin, binary64, fits, le, size, nearest, round, units}
use lib.Ieee.Digits.{size-lt, size-le, size_reaches}
use lib.Ieee.Exact.{HasValue, units_val}
use lib.Ieee.Nearest.{closest, closest_same, div_same, nearest-ge}
use lib.Ieee.Order.{le_of_values}
use lib.Ieee.Positive.{num, den, positive, den_pos, value→cross, positive_of_value, values_of_le, mul_at, between}
use lib.Ieee.Scale.{finite, grid, round_same, round_val, round_under, grid_scale, normal_of_fraction}
use Rattle.numbers.specs.Reals.{◌⊗◌}
use Rattle.roots.specs.Root.{nearest_root, root_of_units, root_of}
use Rattle.roots.proofs.Squares.{is_nearest_root}
use Rattle.roots.proofs.Units.{root_is, four}
use Rattle.roots.proofs.Between.{Normal, normalised}
use Rattle.bound.proofs.Small.{M}

-- ---- the nearest whole number is off by half the divisor at most

abbrev Cmp : Ordering → ℕ → ℕ → Type 0
Cmp Ordering.lt a b = a < b
Cmp Ordering.eq a b = a ≡ b
Cmp Ordering.gt a b = b < a

cmp : (a b : ℕ) → Cmp (compare a b) a b
cmp a b = go (compare a b) (leb→le a b) (nleb→lt a b) (eqb→eq a b) (λ (e : a ≡ b). subst (λ (x : ℕ). T (eqb a x)) e (eqb_refl a))
  where
    go : (o : Ordering) → (T (is_le o) → a ≤ b) → (T (not (is_le o)) → b < a) → (T (compare_is_eq o) → a ≡ b) → (a ≡ b → T (compare_is_eq o)) → Cmp o a b
    go Ordering.lt h k e n = lt_of_le-ne (h tt) n
    go Ordering.eq h k e n = e tt
    go Ordering.gt h k e n = k tt

half : (w r b : ℕ) (o : Ordering) → Cmp o (r * 2) b → r < b → (2 * (nearest w o * b) ≤ 2 * (w * b + r) + b) × (2 * (w * b + r) ≤ 2 * (nearest w o * b) + b)
half w r b Ordering.lt h l = (omega arith, omega arith)
half w r b Ordering.eq h l =
    let e = add-mul w (w % 2) b in
    let f : w % 2 * b ≤ 1 * b = mul-le-mul_right b (omega (arith, mod-lt w {m = 2} (lit< tt))) in
    (omega (arith, e, f), omega (arith, e, f))
half w r b Ordering.gt h l = (omega (arith, suc-mul w b), omega (arith, suc-mul w b))

module _ (a b : ℕ) (p : 0 < b) where
  near : (2 * (closest a b * b) ≤ 2 * a + b) × (2 * a ≤ 2 * (closest a b * b) + b)
  near =
      let h = half (a / b) (a % b) b (compare (a % b * 2) b) (cmp (a % b * 2) b) (mod-lt a p) in
      let e = div-add-mod' a b in
      (omega (arith, h.0, e), omega (arith, h.1, e))

-- ---- the square of 53 digits, in whole numbers

module _ (m : ℕ) (low : 2 ^ 52 ≤ m) (high : m < 2 ^ 53) where
  least : 2 ^ 104 ≤ m * m
  least = le_trans (le_of_eq refl) (mul-le-mul low low)

  most : m * m ≤ 2 ^ 106 - 2 ^ 54 + 1
  most = let h : m ≤ 2 ^ 53 - 1 = omega arith in le_trans (mul-le-mul h h) (le_of_eq refl)

  -- how many digits are dropped
  abbrev k : ℕ
  k = size (m * m * 2 ^ 1074 / 2 ^ 1126) - 53

  whole : m * m * 2 ^ 1074 / 2 ^ 1126 ≡ m * m / 2 ^ 52
  whole = div_same (m * m * 2 ^ 1074) (2 ^ 1126) (m * m) (2 ^ 52) (pow_pos 1126) (pow_pos 52) (mul_assoc (m * m) (2 ^ 1074) (2 ^ 52))

  -- none, or one of a square from 2 ^ 105 on
  dropped : (k ≤ 1) × (1 ≤ k → 2 ^ 105 ≤ m * m)
  dropped =
      let z : size (m * m / 2 ^ 52) ≤ 54 = size-le (m * m / 2 ^ 52) 54 (omega (arith, most)) in
      let e : k ≡ size (m * m / 2 ^ 52) - 53 = ap (λ (x : ℕ). size x - 53) whole in
      (omega (arith, z, e), λ h. let r : 2 ^ 53 ≤ m * m / 2 ^ 52 = size_reaches (m * m / 2 ^ 52) 53 (omega (arith, e, h)) in omega (arith, r))

  abbrev u : ℕ
  u = 2 ^ 52 * 2 ^ k

  abbrev n : ℕ
  n = closest (m * m) u * u

  unit : (i : ℕ) → i ≤ 1 → (1 ≤ i → 2 ^ 105 ≤ m * m) → (2 ^ 52 ≤ 2 ^ 52 * 2 ^ i) × (2 ^ 52 * 2 ^ i ≤ 2 ^ 53) × (2 ^ 52 * 2 ^ i < 2 * m)
      × (2 ^ 52 ≤ m * m / (2 ^ 52 * 2 ^ i))
  unit zero l h = (omega arith, omega arith, omega arith, omega (arith, least))
  unit (suc zero) l h =
      let g : 2 ^ 52 < m = lt_of_not-le (λ (z : m ≤ 2 ^ 52). let q : m * m ≤ 2 ^ 52 * 2 ^ 52 = mul-le-mul z z in let r = h (omega arith) in
      lt_irrefl (m * m) (omega (arith, q, r))) in
      (omega arith, omega arith, omega arith, let r = h (omega arith) in omega (arith, r))
  unit (suc (suc i)) l h = absurd (let z : suc (suc i) ≤ 1 = l in omega arith)

  u_is : (2 ^ 52 ≤ u) × (u ≤ 2 ^ 53) × (u < 2 * m) × (2 ^ 52 ≤ m * m / u)
  u_is = unit k dropped.0 dropped.1

  u_pos : 0 < u
  u_pos = omega (arith, u_is.0)

  n_high : n ≤ m * m + m
  n_high = omega (arith, (near (m * m) u u_pos).0, u_is.1)

  n_low : m * m < n + m
  n_low = omega (arith, (near (m * m) u u_pos).1, u_is.2)

  full : 2 ^ 52 ≤ closest (m * m) u
  full = le_trans u_is.3 (nearest-ge (m * m / u) (compare (m * m % u * 2) u))

  n_least : 2 ^ 104 ≤ n
  n_least = le_trans (le_of_eq refl) (mul-le-mul full u_is.0)

  n_most : n < 2 ^ 106
  n_most = omega (arith, (near (m * m) u u_pos).0, u_is.1, most)

  nearest_is : m ≡ nearest_root n
  nearest_is = is_nearest_root (omega (arith, n_least)) (omega (arith, n_most)) (record { above = n_low; below = n_high })

  -- the same with 2 * j digits more, or less
  module _ (j : ℕ) (far : 511 ≤ j) where
    abbrev t : ℕ
    t = 2 * j - 1022

    abbrev y : Float
    y = round binary64 false (m * m * 2 ^ t) (2 ^ 1126)

    normal : 2 ^ 52 * 2 ^ 1126 ≤ m * m * 2 ^ 1074
    normal = le_trans (le_of_eq refl) (mul-le-mul_right (2 ^ 1074) least)

    grid_is : grid binary64 (m * m * 2 ^ t) (2 ^ 1126) ≡ closest (m * m) u * 2 ^ k * 2 ^ t
    grid_is =
        grid_scale binary64 (m * m) (2 ^ 1126) t (pow_pos 1126) (normal_of_fraction binary64 (m * m) (2 ^ 1126) (pow_pos 1126) normal)
        ∙ ap (λ (x : ℕ). x * 2 ^ k * 2 ^ t)
        (closest_same (m * m * 2 ^ 1074) (2 ^ 1126 * 2 ^ k) (m * m) u (mul-pos (pow_pos 1126) (pow_pos k)) u_pos
        (mul_assoc (m * m) (2 ^ 1074) u ∙ ap (λ (x : ℕ). m * m * x) (sym (mul_assoc (2 ^ 1074) (2 ^ 52) (2 ^ k)))))

    counted : grid binary64 (m * m * 2 ^ t) (2 ^ 1126) * 2 ^ 1074 ≡ n * 2 ^ (2 * j)
    counted =
        let q = closest (m * m) u in
        let e : t + 1074 ≡ 52 + 2 * j = omega arith in
        ap (λ (x : ℕ). x * 2 ^ 1074) grid_is
        ∙ mul_assoc (q * 2 ^ k) (2 ^ t) (2 ^ 1074)
        ∙ ap (λ (x : ℕ). q * 2 ^ k * x) (sym (pow-add 2 t 1074) ∙ ap (λ (x : ℕ). 2 ^ x) e ∙ pow-add 2 52 (2 * j))
        ∙ sym (mul_assoc (q * 2 ^ k) (2 ^ 52) (2 ^ (2 * j)))
        ∙ ap (λ (x : ℕ). x * 2 ^ (2 * j)) (mul_assoc q (2 ^ k) (2 ^ 52) ∙ ap (λ (x : ℕ). q * x) (mul_comm (2 ^ k) (2 ^ 52)))

    abbrev p : ℕ
    p = n * 2 ^ (2 * j)

    halved : (size p - 105) / 2 ≡ j
    halved =
        let lo : 2 ^ (104 + 2 * j) ≤ p = le_trans (le_of_eq (pow-add 2 104 (2 * j))) (mul-le-mul_right (2 ^ (2 * j)) n_least) in
        let a : 104 + 2 * j < size p = lt_of_not-le (λ (g : size p ≤ 104 + 2 * j). lt_irrefl p (lt_of_lt_of_le (size-lt p) (le_trans (pow_mono g) lo))) in
        let b : size p ≤ 106 + 2 * j = size-le p (106 + 2 * j) (shl_lt 106 (2 * j) n_most) in
        omega arith

    units_is : root_of_units p ≡ units binary64 false m j
    unfolding root_of_units
    units_is =
        ap (λ (i : ℕ). units binary64 false (nearest_root (p / 4 ^ i)) i) halved
        ∙ ap (λ (x : ℕ). units binary64 false (nearest_root x) j) (ap (λ (x : ℕ). p / x) (four j) ∙ mul-div_cancel n (pow_pos (2 * j)))
        ∙ ap (λ (x : ℕ). units binary64 false x j) (sym nearest_is)

    root_back : T (finite y) → root_of y ≡ units binary64 false m j
    root_back f =
        let g : ℕ = grid binary64 (m * m * 2 ^ t) (2 ^ 1126) in
        let v = round_val binary64 (m * m * 2 ^ t) (2 ^ 1126) (round_under binary64 (m * m * 2 ^ t) (2 ^ 1126) f) in
        let c : num y * 2 ^ 1074 ≡ g * den y = value→cross y g (2 ^ 1074) v in
        let some : 0 < g = subst (λ (x : ℕ). 0 < x) (sym grid_is) (mul-pos (mul-pos (lt_of_lt_of_le (lit< tt) full) (pow_pos k)) (pow_pos t)) in
        root_is y (positive_of_value y g (2 ^ 1074) v some)
        ∙ ap root_of_units
        (ap (λ (x : ℕ). x / den y) (sym (mul_assoc (num y) (2 ^ 1074) (2 ^ 1074)) ∙ ap (λ (x : ℕ). x * 2 ^ 1074) c ∙ mul_right_comm g (den y) (2 ^ 1074))
        ∙ mul-div_cancel (g * 2 ^ 1074) (den_pos y)
        ∙ counted)
        ∙ units_is

-- ---- a number from 2 ^ -511 to 1e6

abbrev corner : Float
corner = fin false 1 (negsuc 510)

scaled : (a i j l : ℕ) → i + j ≡ l → a * 2 ^ i * 2 ^ j ≡ a * 2 ^ l
scaled a i j l e = mul_assoc a (2 ^ i) (2 ^ j) ∙ ap (λ (x : ℕ). a * x) (sym (pow-add 2 i j) ∙ ap (λ (x : ℕ). 2 ^ x) e)

exponents : (i j : ℕ) → 2 ^ i < 2 ^ j → i < j
exponents i j h = lt_of_not-le (λ (g : j ≤ i). lt_irrefl (2 ^ i) (lt_of_lt_of_le h (pow_mono g)))

module _ (x : Float) (fit : T (fits binary64 x)) (lo : T (le corner x)) (hi : T (le x M)) where
  above : T (positive x)
  above = between corner x M tt tt lo hi

  d : Normal x
  d = normalised x fit above

  e_low : 1533 ≤ d.e
  e_low =
      let h : 1 * 2 ^ 2148 ≤ d.m * 2 ^ (52 + d.e) * 2 ^ 511 =
      values_of_le corner x 1 (2 ^ 511) (d.m * 2 ^ (52 + d.e)) (2 ^ 2148) tt above (refl, refl) d.value lo in
      let g : 2148 < 53 + (52 + d.e) + 511 =
      exponents 2148 (53 + (52 + d.e) + 511) (lt_of_le_of_lt h (shl_lt (53 + (52 + d.e)) 511 (shl_lt 53 (52 + d.e) d.high))) in
      omega arith

  e_high : d.e ≤ 2063
  e_high =
      let h : d.m * 2 ^ (52 + d.e) * 1 ≤ 1000000 * 2 ^ 2148 =
      values_of_le x M (d.m * 2 ^ (52 + d.e)) (2 ^ 2148) 1000000 1 above tt d.value (refl, refl) hi in
      let l : 2 ^ (52 + (52 + d.e)) ≤ d.m * 2 ^ (52 + d.e) = le_trans (le_of_eq (pow-add 2 52 (52 + d.e))) (mul-le-mul_right (2 ^ (52 + d.e)) d.low) in
      let g : 52 + (52 + d.e) < 2168 =
      exponents (52 + (52 + d.e)) 2168 (lt_of_le_of_lt l (lt_of_le_of_lt (le_trans (le_of_eq (sym (mul-one (d.m * 2 ^ (52 + d.e))))) h) (lit< tt))) in
      omega arith

  abbrev j : ℕ
  j = d.e - 1022

  square_is : x ⊗ x ≡ round binary64 false (d.m * d.m * 2 ^ (2 * j - 1022)) (2 ^ 1126)
  square_is =
      let m = d.m in
      let a = 52 + d.e in
      let s : a + a + 1126 ≡ 2 * j - 1022 + 4296 = omega (arith, e_low) in
      mul_at binary64 x x (m * 2 ^ a) (2 ^ 2148) (m * 2 ^ a) (2 ^ 2148) above above (pow_pos 2148) (pow_pos 2148) d.value d.value
      ∙ round_same binary64 false (m * 2 ^ a * (m * 2 ^ a)) (2 ^ 2148 * 2 ^ 2148) (m * m * 2 ^ (2 * j - 1022)) (2 ^ 1126)
      (mul-pos (pow_pos 2148) (pow_pos 2148)) (pow_pos 1126)
      (ap (λ (z : ℕ). z * 2 ^ 1126) (mul-mul-mul_comm m (2 ^ a) m (2 ^ a) ∙ ap (λ (z : ℕ). m * m * z) (sym (pow-add 2 a a)))
      ∙ scaled (m * m) (a + a) 1126 (2 * j - 1022 + 4296) s ∙ sym (scaled (m * m) (2 * j - 1022) 4296 (2 * j - 1022 + 4296) refl))

  pub root_square : T (finite (x ⊗ x)) → T (le (root_of (x ⊗ x)) x)
  root_square f =
      let m = d.m in
      let far : 511 ≤ j = omega (arith, e_low) in
      let r : root_of (x ⊗ x) ≡ units binary64 false m j = ap root_of square_is
      ∙ root_back m d.low d.high j far (subst (λ (z : Float). T (finite z)) square_is f) in
      let v = units_val binary64 false m j (lt_of_lt_of_le (shl_lt 53 j d.high) (pow_mono {i = 53 + j} {j = 2098} (omega (arith, e_high)))) in
      le_of_values (root_of (x ⊗ x)) x (m * 2 ^ j) (2 ^ 1074) (m * 2 ^ (52 + d.e)) (2 ^ 2148) (pow_pos 1074) (pow_pos 2148)
      (subst (λ (z : Float). HasValue z false (m * 2 ^ j) (2 ^ 1074)) (sym r) v) d.value
      (le_of_eq (scaled m j 2148 (52 + d.e + 1074) (omega (arith, e_low)) ∙ sym (scaled m (52 + d.e) 1074 (52 + d.e + 1074) refl)))
