-- `root_of` looks at nothing but the value: m * 2 ^ e may be written with any m. From the nearest root of m and half of e come the bits of the result.
use Rattle.std.proofs.Common.{◌≡◌, ℕ, zero, suc, ◌+◌, ◌-◌, ◌*◌, ◌/◌, ◌%◌, ◌^◌, ◌<◌, ◌≤◌, true, false, not, T, ℤ, pos, negsuc, sym, refl, ap, ◌∙◌, subst, le_trans, le_of_eq, lt_of_lt_of_le, le_of_suc-le-suc, mul-le-mul_right, mod-lt, mul_assoc, le_antisymm, pow-suc, lt_of_not-le, mul-one, mul_right_comm, not-le_of_lt, div-one, mul-div_cancel, arith, lit<, lt→ltb, pow_pos, pow-add, shl_lt}
use lib.Pow.{pow-lt}
use lib.Ieee.{Float, nan, inf, fin, binary64, up, down, size, units, of_bits, nan_bits}
use lib.Ieee.Exact.{HasValue}
use lib.Ieee.Nearest.{div_same}
use lib.Ieee.Order.{transfer}
use lib.Ieee.Positive.{num, den, positive, den_pos, value→cross, positive_of_value}
use Rattle.roots.specs.Root.{nearest_root, Nearest, root_of_units, root_of}
use Rattle.roots.specs.Inside.{Exponent, lifted}
use Rattle.roots.proofs.Squares.{is_nearest_root, nearest-ge, nearest_lt}
use Rattle.numbers.proofs.Significands.{size_is, plain_pattern, plain_no_nan}
use Rattle.roots.proofs.Exponents.{lifted_lt, exponent_down}

-- ---- `root_of` sees only the value
pub root_is : (x : Float) → T (positive x) → root_of x ≡ root_of_units (num x * 2 ^ 2148 / den x)
unfolding root_of
root_is nan p = absurd p
root_is (inf s) p = absurd p
root_is (fin true m e) p = absurd p
root_is (fin false zero e) p = absurd p
root_is (fin false (suc m) e) p = refl

pub root_same : (x y : Float) (a c b d : ℕ) → 0 < a → 0 < b → 0 < c → 0 < d → HasValue x false a c → HasValue y false b d → a * d ≡ b * c → root_of x ≡ root_of y
root_same x y a c b d A B C D h k e =
    let u = value→cross x a c h in
    let v = value→cross y b d k in
    let w : num x * den y ≡ num y * den x = le_antisymm (transfer (num x) (num y) (den x) (den y) a b c d C D u v (le_of_eq e))
    (transfer (num y) (num x) (den y) (den x) b a d c D C v u (le_of_eq (sym e))) in
    root_is x (positive_of_value x a c h A)
    ∙ ap root_of_units (div_same (num x * 2 ^ 2148) (den x) (num y * 2 ^ 2148) (den y) (den_pos x) (den_pos y) (mul_right_comm (num x) (2 ^ 2148) (den y)
    ∙ ap (λ (z : ℕ). z * 2 ^ 2148) w ∙ mul_right_comm (num y) (den x) (2 ^ 2148)))
    ∙ sym (root_is y (positive_of_value y b d k B))

pub four : (k : ℕ) → 4 ^ k ≡ 2 ^ (2 * k)
four zero = refl
four (suc k) = pow-suc 4 k ∙ ap (λ (x : ℕ). x * 4) (four k) ∙ sym (pow-add 2 (2 * k) 2) ∙ ap (λ (x : ℕ). 2 ^ x) (next k)
  where
    next : (k : ℕ) → 2 * k + 2 ≡ 2 * suc k
    next k = omega arith

-- ---- the root of m * 2 ^ (52 + e) / 2 ^ 2148, for an m of 53 digits
parts : (e : ℕ) → 52 + e ≡ e % 2 + 52 + 2 * (e / 2)
parts e = omega arith

pub units_square : (m e : ℕ) → m * 2 ^ (52 + e) ≡ m * 2 ^ (e % 2) * 2 ^ 52 * 4 ^ (e / 2)
units_square m e =
    let k = e / 2 in
    ap (λ (x : ℕ). m * 2 ^ x) (parts e)
    ∙ ap (λ (x : ℕ). m * x) (pow-add 2 (e % 2 + 52) (2 * k) ∙ ap (λ (x : ℕ). x * 2 ^ (2 * k)) (pow-add 2 (e % 2) 52))
    ∙ sym (mul_assoc m (2 ^ (e % 2) * 2 ^ 52) (2 ^ (2 * k)))
    ∙ ap (λ (x : ℕ). x * 2 ^ (2 * k)) (sym (mul_assoc m (2 ^ (e % 2)) (2 ^ 52)))
    ∙ ap (λ (x : ℕ). m * 2 ^ (e % 2) * 2 ^ 52 * x) (sym (four k))

pub units_root : (m e : ℕ) → 2 ^ 52 ≤ m → m < 2 ^ 53 → root_of_units (m * 2 ^ (52 + e)) ≡ units binary64 false (nearest_root (m * 2 ^ (e % 2) * 2 ^ 52)) (e / 2)
unfolding root_of_units
units_root m e l h =
    let p = m * 2 ^ (52 + e) in
    let lo : 2 ^ (52 + (52 + e)) ≤ p = le_trans (le_of_eq (pow-add 2 52 (52 + e))) (mul-le-mul_right (2 ^ (52 + e)) l) in
    let hi : p < 2 ^ (53 + (52 + e)) = shl_lt 53 (52 + e) h in
    let z : (size p - 105) / 2 ≡ e / 2 =
    ap (λ (x : ℕ). (x - 105) / 2) (size_is p (52 + (52 + e)) lo (subst (λ (x : ℕ). p < 2 ^ x) (digits e) hi)) ∙ ap (λ (x : ℕ). x / 2) (less e) in
    let k = e / 2 in
    let n = m * 2 ^ (e % 2) * 2 ^ 52 in
    ap (λ (j : ℕ). units binary64 false (nearest_root (p / 4 ^ j)) j) z
    ∙ ap (λ (x : ℕ). units binary64 false (nearest_root x) k) (ap (λ (x : ℕ). x / 4 ^ k) (units_square m e)
    ∙ mul-div_cancel n (subst (λ (x : ℕ). 0 < x) (sym (four k)) (pow_pos (2 * k))))
  where
    digits : (e : ℕ) → 53 + (52 + e) ≡ suc (52 + (52 + e))
    digits e = omega arith

    less : (e : ℕ) → suc (52 + (52 + e)) - 105 ≡ e
    less e = omega arith

-- ---- m * 2 ^ e in those terms
drop_down : (m a l : ℕ) → a ≤ l → m * 2 ^ l / 2 ^ a ≡ m * 2 ^ (l - a)
drop_down m a l h =
    ap (λ (x : ℕ). m * x / 2 ^ a) (ap (λ (x : ℕ). 2 ^ x) (back a l h) ∙ pow-add 2 (l - a) a)
    ∙ ap (λ (x : ℕ). x / 2 ^ a) (sym (mul_assoc m (2 ^ (l - a)) (2 ^ a)))
    ∙ mul-div_cancel (m * 2 ^ (l - a)) (pow_pos a)
  where
    back : (a l : ℕ) → a ≤ l → l ≡ l - a + a
    back a l h = omega arith

lifted_is : (m : ℕ) (e : ℤ) → down e ≤ 2 ^ 1126 → m * up e * 2 ^ 2148 / down e ≡ m * 2 ^ (52 + lifted e)
unfolding lifted
lifted_is m (pos a) h = div-one (m * 2 ^ a * 2 ^ 2148) ∙ mul_assoc m (2 ^ a) (2 ^ 2148) ∙ ap (λ (x : ℕ). m * x) (sym (pow-add 2 a 2148))
    ∙ ap (λ (x : ℕ). m * 2 ^ x) (sum a)
  where
    sum : (a : ℕ) → a + 2148 ≡ 52 + (a + 2096)
    sum a = omega arith
lifted_is m (negsuc a) h =
    let l : suc a ≤ 1126 = le_of_suc-le-suc (lt_of_not-le (λ (g : suc 1126 ≤ suc a). not-le_of_lt (pow-lt g) h)) in
    ap (λ (x : ℕ). x * 2 ^ 2148 / 2 ^ suc a) (mul-one m) ∙ drop_down m (suc a) 2148 (low a l) ∙ ap (λ (x : ℕ). m * 2 ^ x) (sum a l)
  where
    low : (a : ℕ) → suc a ≤ 1126 → suc a ≤ 2148
    low a h = omega arith

    sum : (a : ℕ) → suc a ≤ 1126 → 2148 - suc a ≡ 52 + (2095 - a)
    sum a h = omega arith

-- ---- the root of m * 2 ^ e, for an m of 53 digits: its significand q has 53 digits too
pub significand : (m e : ℕ) → 2 ^ 52 ≤ m → m < 2 ^ 53 → (2 ^ 104 ≤ m * 2 ^ (e % 2) * 2 ^ 52) × (m * 2 ^ (e % 2) * 2 ^ 52 + 2 ^ 53 ≤ 2 ^ 106)
significand m e l h = go (e % 2) (mod-lt e (lit< tt))
  where
    go : (r : ℕ) → r < 2 → (2 ^ 104 ≤ m * 2 ^ r * 2 ^ 52) × (m * 2 ^ r * 2 ^ 52 + 2 ^ 53 ≤ 2 ^ 106)
    go zero a = (omega arith, omega arith)
    go (suc zero) a = (omega arith, omega arith)
    go (suc (suc r)) a = absurd (none r a)
      where
        none : (r : ℕ) → suc (suc r) < 2 → ⊥
        none r h = omega arith

pub root_digits : (m e q : ℕ) → 2 ^ 52 ≤ m → m < 2 ^ 53 → Nearest (m * 2 ^ (e % 2) * 2 ^ 52) q → (2 ^ 52 ≤ q) × (q < 2 ^ 53)
root_digits m e q l h a = let z = significand m e l h in (nearest-ge a z.0, nearest_lt a z.1)

pub root_made : (m : ℕ) (e : ℤ) (q : ℕ) → 2 ^ 52 ≤ m → m < 2 ^ 53 → down e ≤ 2 ^ 1126 → lifted e / 2 < 2 ^ 11 - 2 → Nearest (m * 2 ^ (lifted e % 2) * 2 ^ 52) q
    → of_bits binary64 (lifted e / 2 * 2 ^ 52 + q) ≡ root_of (fin false m e)
root_made m e q l h b K a =
    let z = root_digits m (lifted e) q l h a in
    let n = m * 2 ^ (lifted e % 2) * 2 ^ 52 in
    let s = significand m (lifted e) l h in
    plain_pattern q (lifted e / 2) z.0 z.1 K
    ∙ ap (λ (x : ℕ). units binary64 false x (lifted e / 2)) (is_nearest_root (lt_of_lt_of_le (lit< tt) s.0) (below n s.1) a)
    ∙ sym (root_is (fin false m e) (lt→ltb 0 m (lt_of_lt_of_le (lit< tt) l)) ∙ ap root_of_units (lifted_is m e b) ∙ units_root m (lifted e) l h)
  where
    below : (n : ℕ) → n + 2 ^ 53 ≤ 2 ^ 106 → n < 4 ^ 53
    below n h = omega arith

-- ---- the same as the machine has it: m << r, with r 0 or 1, and (k << 52) + q
pub shifted : (m r : ℕ) → 2 ^ 52 ≤ m → m < 2 ^ 53 → r < 2 → (2 ^ 52 ≤ m * 2 ^ r % 2 ^ 64) × (m * 2 ^ r % 2 ^ 64 < 2 ^ 54) × (m * 2 ^ r % 2 ^ 64 ≡ m * 2 ^ r)
shifted m zero l h a = (omega arith, omega arith, omega arith)
shifted m (suc zero) l h a = (omega arith, omega arith, omega arith)
shifted m (suc (suc r)) l h a = absurd (none r a)
  where
    none : (r : ℕ) → suc (suc r) < 2 → ⊥
    none r h = omega arith

module _ (m : ℕ) (e : ℤ) (r k q : ℕ) (l : 2 ^ 52 ≤ m) (h : m < 2 ^ 53) (x : Exponent e) (o : r ≡ lifted e % 2) (p : k ≡ lifted e / 2)
    (a : Nearest (m * 2 ^ r * 2 ^ 52) q) where
  is_nearest : Nearest (m * 2 ^ (lifted e % 2) * 2 ^ 52) q
  is_nearest = subst (λ (z : ℕ). Nearest (m * 2 ^ z * 2 ^ 52) q) o a

  digits : (2 ^ 52 ≤ q) × (q < 2 ^ 53)
  digits = root_digits m (lifted e) q l h is_nearest

  small : k < 2 ^ 11 - 2
  small = subst (λ (z : ℕ). z < 2 ^ 11 - 2) (sym p) (lifted_lt e x)

  exact : k * 2 ^ 52 % 2 ^ 64 ≡ k * 2 ^ 52
  exact = go k small
    where
      go : (k : ℕ) → k < 2 ^ 11 - 2 → k * 2 ^ 52 % 2 ^ 64 ≡ k * 2 ^ 52
      go k h = omega arith

  pub bits_fit : k * 2 ^ 52 % 2 ^ 64 + q < 2 ^ 64
  bits_fit = go k q small digits.1
    where
      go : (k q : ℕ) → k < 2 ^ 11 - 2 → q < 2 ^ 53 → k * 2 ^ 52 % 2 ^ 64 + q < 2 ^ 64
      go k q a b = omega arith

  pub bits_no_nan : T (not (nan_bits binary64 (k * 2 ^ 52 % 2 ^ 64 + q)))
  bits_no_nan = subst (λ (z : ℕ). T (not (nan_bits binary64 (z + q)))) (sym exact) (plain_no_nan q k digits.0 digits.1 small)

  pub bits_root : of_bits binary64 (k * 2 ^ 52 % 2 ^ 64 + q) ≡ root_of (fin false m e)
  bits_root =
      ap (λ (z : ℕ). of_bits binary64 (z + q)) (exact ∙ ap (λ (z : ℕ). z * 2 ^ 52) p)
      ∙ root_made m e q l h (exponent_down e x) (lifted_lt e x) is_nearest
