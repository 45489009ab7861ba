-- A number from 0 on that is not too large, with 2 ^ 52 added and taken away again: between 2 ^ 52 and 2 ^ 53 every float is whole, and rounding keeps the
-- order, so what is left is the number without its fraction or one more.
use Rattle.std.proofs.Common.{◌≡◌, ℕ, zero, suc, ◌+◌, ◌-◌, ◌*◌, ◌/◌, ◌%◌, ◌^◌, ◌<◌, ◌≤◌, min, true, false, ◌&&◌, T, eqb, ltb, leb, ℤ, pos, negsuc, sym, refl, ap, ◌∙◌, ap₂, mul-le-mul_right, mul_assoc, div-lt_iff_lt-mul, add-mul, mul-pos, pow-suc, le-div_iff_mul-le, zero-mul, mul-one, mul_right_comm, div-mul-le_self, le_of_mul-le-mul_right, arith, le→leb, ltb→lt, pow_pos, ltb-false, ltb-true, le-ltb, lt-ltb}
use native.Mathlib.Nat.{zero-div}
use lib.Ieee.{Float, nan, inf, fin, binary64, of_bits, up, down, round, sum, add, sub, neg, lt, le, fits, of_int, in_float, in_unsigned, to_unsigned, low, emax}
use lib.Ieee.Fits.{down_pos, add-fits, and_l, and_r}
use lib.Ieee.Order.{round_mono}
use lib.Ieee.Exact.{HasValue}
use lib.Ieee.Back.{round_whole, unsigned_back}
use lib.Ieee.Positive.{num, den, positive, own_value, between, positive_of_value, values_of_le}
use Rattle.numbers.specs.Reals.{◌⊕◌, ◌⊖◌, f0, f0_is}
use Rattle.order.proofs.Signed.{le→parts}
use Rattle.rules.proofs.Branches.{by_test}

-- 2 ^ 52
abbrev shift : Float
shift = fin false 1 (pos 52)

-- by its bits
abbrev pub big : Float
big = of_bits binary64 0x4330_0000_0000_0000

shift_is : big ≡ shift
unfolding of_bits
shift_is = refl

-- a significand has 53 digits
digits : (m : ℕ) (e : ℤ) → T (fits binary64 (fin false m e)) → m < 2 ^ 53
unfolding fits
digits zero e t = omega arith
digits (suc m) e t =
    let a = eqb (suc m % 2) 1 in
    let b = ltb (suc m) (2 ^ 53) in
    let c = leb (down e) (2 ^ low binary64) in
    ltb→lt (suc m) (2 ^ 53) (and_r a b (and_l (a && b) c (and_l (a && b && c) (ltb (suc m * up e) (2 ^ suc (emax binary64) * down e)) t)))

-- from 2 ^ 52 on a float is whole, and taking 2 ^ 52 away is exact
back : (y : Float) → T (fits binary64 y) → T (positive y) → 4503599627370496 * den y ≤ num y
    → (k : ℕ) × ((y ⊖ shift ≡ of_int binary64 (pos k)) × HasValue y false (4503599627370496 + k) 1)
unfolding sub add neg sum of_int
back nan f p h = absurd p
back (inf s) f p h = absurd p
back (fin true m e) f p h = absurd p
back (fin false m (pos e)) f p h =
    let w = m * up (pos e) in
    let l : ltb (w * 1) 4503599627370496 ≡ false = le-ltb (w * 1) 4503599627370496 (omega (arith, mul-one w)) in
    let q : w * 1 - 4503599627370496 ≡ w - 4503599627370496 = omega (arith, mul-one w) in
    (w - 4503599627370496, ((rw l (ap (λ (x : ℕ). round binary64 false x 1) q)), (refl, omega (arith, mul-one w))))
back (fin false m (negsuc e)) f p h = absurd (omega (arith, digits m (negsuc e) f, pow-suc 2 e, pow_pos e, mul-one m))

-- a / d + 2 ^ 52, rounded
module _ (y : Float) (a d : ℕ) (D : 0 < d) (few : a / d + 1 < 4294967296) (is : y ≡ round binary64 false (a + 4503599627370496 * d) d)
    (f : T (fits binary64 y)) where
  under : T (le (round binary64 false (4503599627370496 + a / d) 1) y)
  under =
      rw is
      (round_mono binary64 (4503599627370496 + a / d) 1 (a + 4503599627370496 * d) d (omega arith) D
      (omega (arith, div-mul-le_self a d, add-mul 4503599627370496 (a / d) d, mul-one (a + 4503599627370496 * d))))

  over : T (le y (round binary64 false (4503599627370496 + a / d + 1) 1))
  over =
      rw is
      (round_mono binary64 (a + 4503599627370496 * d) d (4503599627370496 + a / d + 1) 1 D (omega arith)
      (omega (
        arith,
        (div-lt_iff_lt-mul {k = d} {x = a} {y = a / d + 1} D).0 (omega arith),
        add-mul (a / d) 1 d,
        add-mul (4503599627370496 + a / d) 1 d,
        add-mul 4503599627370496 (a / d) d,
        mul-one (a + 4503599627370496 * d),
      )))

  near : (k : ℕ) × ((y ⊖ shift ≡ of_int binary64 (pos k)) × (a / d ≤ k) × (k ≤ a / d + 1))
  near =
      let lo = round binary64 false (4503599627370496 + a / d) 1 in
      let hi = round binary64 false (4503599627370496 + a / d + 1) 1 in
      let v : HasValue lo false (4503599627370496 + a / d) 1 = round_whole binary64 false (4503599627370496 + a / d) (omega arith) in
      let w : HasValue hi false (4503599627370496 + a / d + 1) 1 = round_whole binary64 false (4503599627370496 + a / d + 1) (omega arith) in
      let p : T (positive lo) = positive_of_value lo _ 1 v (omega arith) in
      let q : T (positive hi) = positive_of_value hi _ 1 w (omega arith) in
      let r : T (positive y) = between lo y hi p q under over in
      let u = values_of_le lo y (4503599627370496 + a / d) 1 (num y) (den y) p r v (own_value y r) under in
      let b = back y f r (omega (arith, u, add-mul 4503599627370496 (a / d) (den y), mul-one (num y))) in
      let g = values_of_le lo y (4503599627370496 + a / d) 1 (4503599627370496 + b.0) 1 p r v b.1.1 under in
      let h = values_of_le y hi (4503599627370496 + b.0) 1 (4503599627370496 + a / d + 1) 1 r q b.1.1 w over in
      (b.0, (b.1.0, omega (arith, g), omega (arith, h)))

capped : (n : ℕ) → min n (2 ^ 64 - 1) + 1 < 4294967296 → min n (2 ^ 64 - 1) ≡ n
capped n h = omega arith

-- what is at least 0 and has the sign minus is -0.0
minus_zero : (m : ℕ) (e : ℤ) → T (le (fin false 0 (pos 0)) (fin true m e)) → m * up e ≡ 0
minus_zero m e h = omega (arith, le→parts (fin false 0 (pos 0)) (fin true m e) tt tt h, mul-one (m * up e), zero-mul (down e))

cut_is : (m : ℕ) (e : ℤ) → to_unsigned 64 (fin false m e) + 1 < 4294967296 → to_unsigned 64 (fin false m e) ≡ m * up e / down e
unfolding to_unsigned
cut_is m e l = capped (m * up e / down e) l

minus_cut : (m : ℕ) (e : ℤ) → to_unsigned 64 (fin true m e) ≡ 0 / down e
unfolding to_unsigned
minus_cut m e = sym (zero-div (down e))

plus_shift : (m : ℕ) (e : ℤ) → fin false m e ⊕ shift ≡ round binary64 false (m * up e + 4503599627370496 * down e) (down e)
unfolding add sum
plus_shift m e = ap₂ (λ (p q : ℕ). round binary64 false (p + 4503599627370496 * down e) q) (mul-one (m * up e)) (mul-one (down e))

zero_shift : (m : ℕ) (e : ℤ) → m * up e ≡ 0 → fin true m e ⊕ shift ≡ round binary64 false (0 + 4503599627370496 * down e) (down e)
unfolding add sum
zero_shift m e z =
    let q : m * up e * 1 ≡ 0 = omega (arith, mul-one (m * up e)) in
    let b : ltb 0 (4503599627370496 * down e) ≡ true = lt-ltb 0 (4503599627370496 * down e) (omega (arith, down_pos e)) in
    let r : 4503599627370496 * down e - 0 ≡ 0 + 4503599627370496 * down e = omega arith in
    rw (q, b) (ap₂ (λ (p d : ℕ). round binary64 false p d) r (mul-one (down e)))

nearby : (x : Float) → T (le (fin false 0 (pos 0)) x) → to_unsigned 64 x + 1 < 4294967296
    → (k : ℕ) × (((x ⊕ shift) ⊖ shift ≡ of_int binary64 (pos k)) × (to_unsigned 64 x ≤ k) × (k ≤ to_unsigned 64 x + 1))
nearby nan h l = absurd (unfold le in h)
nearby (inf true) h l = absurd (unfold le in h)
nearby (inf false) h l = absurd (unfold to_unsigned in omega arith)
nearby (fin false m e) h l =
    let t = cut_is m e l in
    rw t (near (fin false m e ⊕ shift) (m * up e) (down e) (down_pos e) (rw t at l) (plus_shift m e) (add-fits binary64 (fin false m e) shift))
nearby (fin true m e) h l =
    let t = minus_cut m e in
    rw t (near (fin true m e ⊕ shift) 0 (down e) (down_pos e) (rw t at l) (zero_shift m e (minus_zero m e h)) (add-fits binary64 (fin true m e) shift))

-- ---- which of the two it is: v is the whole number k
scaled : (p k dq d : ℕ) → p * 1 ≡ k * dq → p * d ≡ k * d * dq
scaled p k dq d h = let e : p ≡ k * dq = omega (arith, mul-one p) in ap (λ (x : ℕ). x * d) e ∙ mul_right_comm k dq d

unscaled : (a b c : ℕ) → 0 < c → a * c < b * c → a < b
unscaled a b c C h = by_test (ltb a b) (ltb-true a b) (λ e. absurd (omega (arith, mul-le-mul_right {m = b} {n = a} c (ltb-false a b e))))

module _ (k : ℕ) where
  past : (v : Float) → HasValue v false k 1 → (m : ℕ) (e : ℤ) → lt (fin false m e) v ≡ true → m * up e / down e < k
  unfolding lt
  past nan h m e t = absurd h
  past (inf s) h m e t = absurd h
  past (fin true p q) h m e t = let z : ◌≡◌ {A = ℕ} 0 1 = cc in absurd (omega arith)
  past (fin false p q) h m e t =
      (div-lt_iff_lt-mul {k = down e} {x = m * up e} {y = k} (down_pos e)).1
      (unscaled (m * up e) (k * down e) (down q) (down_pos q)
      (omega (arith, ltb-true (m * up e * down q) (p * up q * down e) t, scaled (p * up q) k (down q) (down e) h.1)))

  not_past : (v : Float) → HasValue v false k 1 → (m : ℕ) (e : ℤ) → lt (fin false m e) v ≡ false → k ≤ m * up e / down e
  unfolding lt
  not_past nan h m e t = absurd h
  not_past (inf s) h m e t = absurd h
  not_past (fin true p q) h m e t = let z : ◌≡◌ {A = ℕ} 0 1 = cc in absurd (omega arith)
  not_past (fin false p q) h m e t =
      (le-div_iff_mul-le {k = down e} {x = k} {y = m * up e} (down_pos e)).1
      (le_of_mul-le-mul_right {m = k * down e} {n = m * up e} {k = down q}
      (omega (arith, ltb-false (m * up e * down q) (p * up q * down e) t, scaled (p * up q) k (down q) (down e) h.1)) (down_pos q))

  zero_past : (v : Float) → HasValue v false k 1 → (m : ℕ) (e : ℤ) → m * up e ≡ 0 → lt (fin true m e) v ≡ true → 0 < k
  unfolding lt
  zero_past nan h m e z t = absurd h
  zero_past (inf s) h m e z t = absurd h
  zero_past (fin true p q) h m e z t = let y : ◌≡◌ {A = ℕ} 0 1 = cc in absurd (omega arith)
  zero_past (fin false p q) h m e z t =
      unscaled 0 k (down e * down q) (mul-pos (down_pos e) (down_pos q))
      (omega (
        arith,
        ltb-true 0 (m * up e * down q + p * up q * down e) t,
        ap (λ (x : ℕ). x * down q) z,
        zero-mul (down q),
        zero-mul (down e * down q),
        scaled (p * up q) k (down q) (down e) h.1,
        mul_assoc k (down e) (down q),
      ))

  zero_not_past : (v : Float) → HasValue v false k 1 → (m : ℕ) (e : ℤ) → m * up e ≡ 0 → lt (fin true m e) v ≡ false → k ≤ 0
  unfolding lt
  zero_not_past nan h m e z t = absurd h
  zero_not_past (inf s) h m e z t = absurd h
  zero_not_past (fin true p q) h m e z t = let y : ◌≡◌ {A = ℕ} 0 1 = cc in absurd (omega arith)
  zero_not_past (fin false p q) h m e z t =
      le_of_mul-le-mul_right {m = k} {n = 0} {k = down e * down q}
      (omega (
        arith,
        ltb-false 0 (m * up e * down q + p * up q * down e) t,
        zero-mul (down e * down q),
        scaled (p * up q) k (down q) (down e) h.1,
        mul_assoc k (down e) (down q),
      ))
      (mul-pos (down_pos e) (down_pos q))

  over_test : (x v : Float) → T (le (fin false 0 (pos 0)) x) → to_unsigned 64 x + 1 < 4294967296 → HasValue v false k 1 → lt x v ≡ true → to_unsigned 64 x < k
  over_test nan v h l w t = absurd (unfold le in h)
  over_test (inf true) v h l w t = absurd (unfold le in h)
  over_test (inf false) v h l w t = absurd (unfold to_unsigned in omega arith)
  over_test (fin false m e) v h l w t = rw (cut_is m e l) (past v w m e t)
  over_test (fin true m e) v h l w t = unfold to_unsigned in zero_past v w m e (minus_zero m e h) t

  under_test : (x v : Float) → T (le (fin false 0 (pos 0)) x) → to_unsigned 64 x + 1 < 4294967296 → HasValue v false k 1 → lt x v ≡ false → k ≤ to_unsigned 64 x
  under_test nan v h l w t = absurd (unfold le in h)
  under_test (inf true) v h l w t = absurd (unfold le in h)
  under_test (inf false) v h l w t = absurd (unfold to_unsigned in omega arith)
  under_test (fin false m e) v h l w t = rw (cut_is m e l) (not_past v w m e t)
  under_test (fin true m e) v h l w t = unfold to_unsigned in zero_not_past v w m e (minus_zero m e h) t

-- ---- the whole number that it is cast to
module _ (x : Float) (h : T (le (fin false 0 (pos 0)) x)) (l : to_unsigned 64 x + 1 < 4294967296) where
  found : ℕ
  found = (nearby x h l).0

  found_few : found ≤ 4294967295
  unfolding found
  found_few = omega (arith, (nearby x h l).1.2)

  found_cast : T (in_unsigned binary64 32 (of_int binary64 (pos found))) × (to_unsigned 32 (of_int binary64 (pos found)) ≡ found)
  found_cast = unsigned_back binary64 32 found (unfold in_float in le→leb found (2 ^ 53) (omega (arith, found_few))) (omega (arith, found_few))

  found_value : HasValue (of_int binary64 (pos found)) false found 1
  unfolding of_int
  found_value = round_whole binary64 false found (omega (arith, found_few))

  is_found : (x ⊕ shift) ⊖ shift ≡ of_int binary64 (pos found)
  unfolding found
  is_found = (nearby x h l).1.0

  cast_fits : T (in_unsigned binary64 32 ((x ⊕ shift) ⊖ shift))
  cast_fits = rw is_found found_cast.0

  cast-past : lt x ((x ⊕ shift) ⊖ shift) ≡ true → to_unsigned 32 ((x ⊕ shift) ⊖ shift) ≡ to_unsigned 64 x + 1
  unfolding found
  cast-past t =
      let a : found ≡ to_unsigned 64 x + 1 = omega (arith, over_test found x _ h l found_value (rw is_found at t), (nearby x h l).1.2) in
      rw is_found (found_cast.1 ∙ a)

  cast_same : lt x ((x ⊕ shift) ⊖ shift) ≡ false → to_unsigned 32 ((x ⊕ shift) ⊖ shift) ≡ to_unsigned 64 x
  unfolding found
  cast_same t =
      let a : found ≡ to_unsigned 64 x = omega (arith, under_test found x _ h l found_value (rw is_found at t), (nearby x h l).1.1) in
      rw is_found (found_cast.1 ∙ a)

module _ (x : Float) (h : T (le f0 x)) (l : to_unsigned 64 x < 65536) where
  pub whole_fits : T (in_unsigned binary64 32 ((x ⊕ big) ⊖ big))
  whole_fits = rw shift_is (cast_fits x (rw f0_is at h) (omega arith))

  pub whole_past : lt x ((x ⊕ big) ⊖ big) ≡ true → to_unsigned 32 ((x ⊕ big) ⊖ big) ≡ to_unsigned 64 x + 1
  whole_past t = rw shift_is (cast-past x (rw f0_is at h) (omega arith) (rw shift_is at t))

  pub whole_same : lt x ((x ⊕ big) ⊖ big) ≡ false → to_unsigned 32 ((x ⊕ big) ⊖ big) ≡ to_unsigned 64 x
  whole_same t = rw shift_is (cast_same x (rw f0_is at h) (omega arith) (rw shift_is at t))
