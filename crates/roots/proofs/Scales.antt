-- From significands and places to `hypot_of_count`: the definition drops k digits where the sum of the squares has 105 or 106 digits more than 2 * k, and a q
-- that is nearest there is its significand (`hypot_is`).
use Rattle.std.proofs.Common.{◌≡◌, ℕ, zero, suc, ◌+◌, ◌-◌, ◌*◌, ◌/◌, ◌%◌, ◌^◌, ◌<◌, ◌≤◌, false, ◌⊎◌, sym, refl, ap, ◌∙◌, subst, inl, inr, le_trans, le_of_eq, lt_of_lt_of_le, lt_of_le_of_lt, le_of_lt, mul-le-mul_right, mul_assoc, mul_comm, add-mul, mul-le-mul, mul-le-mul_left, mul-lt-mul_of_pos_right, lt_of_not-le, mul-add, not-le_of_lt, arith, lit<, lit≤, pow_pos, pow_mono, pow-add}
use native.Mathlib.Nat.{mul-mul-mul_comm, pow-le-pow_right}
use native.Mathlib.Nat.{mul-lt-mul_of_pos_left, lt_of_mul-lt-mul_left, le_of_mul-le-mul_left, pow-succ'}
use lib.Ieee.{binary64, size, units}
use lib.Ieee.Digits.{size-lt, size-le}
use Rattle.roots.proofs.Units.{four}
use Rattle.roots.proofs.Squares.{square_add}
use Rattle.roots.proofs.Halves.{mul_lt}
use Rattle.roots.specs.Hypot.{NearestEven, even_root, hypot_of_count}
use Rattle.roots.specs.Inside.{Settled, Lowered}
use Rattle.roots.proofs.Evens.{odd_square, strictly, one_even, scaled, unscaled, even_root_lem, even_ge, even_le}
use Rattle.roots.proofs.Lowering.{lowered_both, nearest_lowered, less_than, at_least}

pub four_pos : (k : ℕ) → 0 < 4 ^ k
four_pos k = subst (λ (x : ℕ). 0 < x) (sym (four k)) (pow_pos (2 * k))

-- ---- how many digits are dropped
digits_lt : (n k a : ℕ) → n < 2 ^ a * 4 ^ k → size n ≤ a + 2 * k
digits_lt n k a h = size-le n (a + 2 * k) (subst (λ (z : ℕ). n < z) (ap (λ (z : ℕ). 2 ^ a * z) (four k) ∙ sym (pow-add 2 a (2 * k))) h)

digits_ge : (n k a : ℕ) → 2 ^ a * 4 ^ k ≤ n → a + 2 * k < size n
digits_ge n k a h =
    lt_of_not-le (λ (g : size n ≤ a + 2 * k). not-le_of_lt (lt_of_lt_of_le (size-lt n) (pow_mono g))
    (le_trans (le_of_eq (pow-add 2 a (2 * k) ∙ ap (λ (z : ℕ). 2 ^ a * z) (sym (four k)))) h))

dropped : (n k : ℕ) → n < 2 ^ 106 * 4 ^ k → (k ≡ 0) ⊎ (2 ^ 104 * 4 ^ k ≤ n) → (size n - 105) / 2 ≡ k
dropped n k h (inl e) = go (size n) k (digits_lt n k 106 h) e
  where
    go : (s k : ℕ) → s ≤ 106 + 2 * k → k ≡ 0 → (s - 105) / 2 ≡ k
    go s k a b = omega arith
dropped n k h (inr l) = go (size n) k (digits_lt n k 106 h) (digits_ge n k 104 l)
  where
    go : (s k : ℕ) → s ≤ 106 + 2 * k → 104 + 2 * k < s → (s - 105) / 2 ≡ k
    go s k a b = omega arith

pub hypot_is : (n k q : ℕ) → n < 2 ^ 106 * 4 ^ k → (k ≡ 0) ⊎ (2 ^ 104 * 4 ^ k ≤ n) → NearestEven (4 * n) (4 ^ k) q → hypot_of_count n ≡ units binary64 false q k
unfolding hypot_of_count
hypot_is n k q h l a =
    ap (λ (j : ℕ). units binary64 false (even_root n j) j) (dropped n k h l)
    ∙ ap (λ (z : ℕ). units binary64 false z k)
    (one_even (4 * n) (4 ^ k) (even_root n k) q (four_pos k) (even_root_lem n k (four_pos k) (subst (λ (z : ℕ). n < z * 4 ^ k) refl h)) a)

-- ---- four times n, for what is nearest to it
four_lt : (n c : ℕ) → n < 2 ^ 106 * c → 4 * n < 2 ^ 108 * c
four_lt n c h = lt_of_lt_of_le (mul-lt-mul_of_pos_left h (lit< tt)) (le_of_eq (sym (mul_assoc 4 (2 ^ 106) c)))

four_le : (n c : ℕ) → 2 ^ 104 * c ≤ n → 2 ^ 106 * c ≤ 4 * n
four_le n c h = le_trans (le_of_eq (mul_assoc 4 (2 ^ 104) c)) (mul-le-mul_left 4 h)

pub few_digits : (n k q : ℕ) → n < 2 ^ 106 * 4 ^ k → NearestEven (4 * n) (4 ^ k) q → q ≤ 2 ^ 53
few_digits n k q h a = even_le (4 * n) (4 ^ k) q (four_pos k) (four_lt n (4 ^ k) h) a

pub all_digits : (n k q : ℕ) → (k ≡ 0) ⊎ (2 ^ 104 * 4 ^ k ≤ n) → NearestEven (4 * n) (4 ^ k) q → (k ≡ 0) ⊎ (2 ^ 52 ≤ q)
all_digits n k q (inl e) a = inl e
all_digits n k q (inr l) a = inr (even_ge (4 * n) (4 ^ k) q (four_pos k) (four_le n (4 ^ k) l) a)

-- ---- two magnitudes, m * 2 ^ p and n * 2 ^ (p - k)
abbrev pub sum_of : ℕ → ℕ → ℕ → ℕ → ℕ
sum_of m n p k = m * 2 ^ p * (m * 2 ^ p) + n * 2 ^ (p - k) * (n * 2 ^ (p - k))

pub square_power : (m p : ℕ) → m * 2 ^ p * (m * 2 ^ p) ≡ m * m * 4 ^ p
square_power m p = mul-mul-mul_comm m (2 ^ p) m (2 ^ p) ∙ ap (λ (z : ℕ). m * m * z) (sym (pow-add 2 p p) ∙ ap (λ (z : ℕ). 2 ^ z) (sym (twice p)) ∙ sym (four p))
  where
    twice : (p : ℕ) → 2 * p ≡ p + p
    twice p = omega arith

four_add : (a b : ℕ) → 4 ^ a * 4 ^ b ≡ 4 ^ (a + b)
four_add a b = sym (pow-add 4 a b)

split_place : (p k : ℕ) → k ≤ p → k + (p - k) ≡ p
split_place p k h = omega arith

pub sum_is : (m n p k : ℕ) → k ≤ p → sum_of m n p k ≡ (m * m * 4 ^ k + n * n) * 4 ^ (p - k)
sum_is m n p k h =
    ap (λ (z : ℕ). z + n * 2 ^ (p - k) * (n * 2 ^ (p - k))) (square_power m p
    ∙ ap (λ (z : ℕ). m * m * z) (ap (λ (z : ℕ). 4 ^ z) (sym (split_place p k h)) ∙ pow-add 4 k (p - k)) ∙ sym (mul_assoc (m * m) (4 ^ k) (4 ^ (p - k))))
    ∙ ap (λ (z : ℕ). m * m * 4 ^ k * 4 ^ (p - k) + z) (square_power n (p - k))
    ∙ sym (add-mul (m * m * 4 ^ k) (n * n) (4 ^ (p - k)))

-- what is nearest at the smaller place is nearest in smallest f64s
pub lifted : (m n p k j q : ℕ) → k ≤ p → NearestEven (4 * (m * m * 4 ^ k + n * n)) (4 ^ (k + j)) q → NearestEven (4 * sum_of m n p k) (4 ^ (p + j)) q
lifted m n p k j q h a =
    let d = 4 ^ (p - k) in
    let e : 4 * (m * m * 4 ^ k + n * n) * d ≡ 4 * sum_of m n p k = mul_assoc 4 (m * m * 4 ^ k + n * n) d ∙ ap (λ (z : ℕ). 4 * z) (sym (sum_is m n p k h)) in
    let f : 4 ^ (k + j) * d ≡ 4 ^ (p + j) = four_add (k + j) (p - k) ∙ ap (λ (z : ℕ). 4 ^ z) (sum p k j h) in
    subst (λ (z : ℕ). NearestEven z (4 ^ (p + j)) q) e
    (subst (λ (z : ℕ). NearestEven (4 * (m * m * 4 ^ k + n * n) * d) z q) f (scaled _ _ q d (four_pos (p - k)) a))
  where
    sum : (p k j : ℕ) → k ≤ p → k + j + (p - k) ≡ p + j
    sum p k j h = omega arith

-- bounds likewise
pub sum_lt : (m n p k j a : ℕ) → k ≤ p → m * m * 4 ^ k + n * n < a * 4 ^ (k + j) → sum_of m n p k < a * 4 ^ (p + j)
sum_lt m n p k j a h l =
    lt_of_le_of_lt (le_of_eq (sum_is m n p k h))
    (lt_of_lt_of_le (mul-lt-mul_of_pos_right l (four_pos (p - k)))
    (le_of_eq (mul_assoc a (4 ^ (k + j)) (4 ^ (p - k)) ∙ ap (λ (z : ℕ). a * z) (four_add (k + j) (p - k) ∙ ap (λ (z : ℕ). 4 ^ z) (sum p k j h)))))
  where
    sum : (p k j : ℕ) → k ≤ p → k + j + (p - k) ≡ p + j
    sum p k j h = omega arith

pub sum_ge : (m n p k j a : ℕ) → k ≤ p → a * 4 ^ (k + j) ≤ m * m * 4 ^ k + n * n → a * 4 ^ (p + j) ≤ sum_of m n p k
sum_ge m n p k j a h l =
    le_trans (le_of_eq (sym (mul_assoc a (4 ^ (k + j)) (4 ^ (p - k)) ∙ ap (λ (z : ℕ). a * z) (four_add (k + j) (p - k) ∙ ap (λ (z : ℕ). 4 ^ z) (sum p k j h)))))
    (le_trans (mul-le-mul_right (4 ^ (p - k)) l) (le_of_eq (sym (sum_is m n p k h))))
  where
    sum : (p k j : ℕ) → k ≤ p → k + j + (p - k) ≡ p + j
    sum p k j h = omega arith

-- ---- the larger stands alone: the other's first digit lies 27 or more places behind its own
pub record Hits (n k q : ℕ) : Type 0 where
  pub high : n < 2 ^ 106 * 4 ^ k
  pub low : (k ≡ 0) ⊎ (2 ^ 104 * 4 ^ k ≤ n)
  pub nearest : NearestEven (4 * n) (4 ^ k) q

pub hit : {n k q : ℕ} → Hits n k q → hypot_of_count n ≡ units binary64 false q k
hit {n} {k} {q} h = hypot_is n k q h.high h.low h.nearest

pub far : (m n p r : ℕ) → 2 ^ 52 ≤ m → m < 2 ^ 53 → n < 2 ^ 53 → r + 27 ≤ p → Hits (m * 2 ^ p * (m * 2 ^ p) + n * 2 ^ r * (n * 2 ^ r)) p m
far m n p r L M N h =
    let c = 4 ^ p in
    let y = n * n * 4 ^ r in
    let e : m * 2 ^ p * (m * 2 ^ p) + n * 2 ^ r * (n * 2 ^ r) ≡ m * m * c + y = ap (λ (z : ℕ). z + n * 2 ^ r * (n * 2 ^ r)) (square_power m p)
    ∙ ap (λ (z : ℕ). m * m * c + z) (square_power n r) in
    let nn : n * n < 2 ^ 106 = mul_lt (2 ^ 53) (2 ^ 53) (lit< tt) N N in
    let Y : y < m * c =
    lt_of_lt_of_le (mul-lt-mul_of_pos_right nn (four_pos r))
    (le_trans (le_of_eq (mul_assoc (2 ^ 52) (4 ^ 27) (4 ^ r) ∙ ap (λ (z : ℕ). 2 ^ 52 * z) (four_add 27 r)))
    (mul-le-mul L (pow-le-pow_right (lit< tt) (place p r h)))) in
    subst (λ (z : ℕ). Hits z p m) (sym e)
    (record {
      high = top m y c M Y;
      low = inr (le_trans (mul-le-mul_right c (mul-le-mul L L)) (first (m * m * c) y));
      nearest = strictly (4 * (m * m * c + y)) c m (under m y c (some m L) (four_pos p)) (over m y c Y);
    })
  where
    place : (p r : ℕ) → r + 27 ≤ p → 27 + r ≤ p
    place p r h = omega arith

    some : (m : ℕ) → 2 ^ 52 ≤ m → 0 < m
    some m h = omega arith

    first : (a b : ℕ) → a ≤ a + b
    first a b = omega arith

    top : (m y c : ℕ) → m < 2 ^ 53 → y < m * c → m * m * c + y < 2 ^ 106 * c
    top m y c M Y =
        let u : m ≤ 2 ^ 53 - 1 = omega arith in
        let v : m + 1 ≤ 2 ^ 53 = omega arith in
        let a : m * (m + 1) ≤ (2 ^ 53 - 1) * 2 ^ 53 = mul-le-mul u v in
        let b : m * (m + 1) ≡ m * m + m * 1 = mul-add m m 1 in
        let d : (m * m + m) * c ≡ m * m * c + m * c = add-mul (m * m) m c in
        let g : m * m + m ≤ 2 ^ 106 = omega arith in
        let f : (m * m + m) * c ≤ 2 ^ 106 * c = mul-le-mul_right c g in
        omega arith

    under : (m y c : ℕ) → 0 < m → 0 < c → (2 * m - 1) * (2 * m - 1) * c < 4 * (m * m * c + y)
    under m y c z C =
        let q = m - 1 in
        let f : m ≡ q + 1 = omega arith in
        let g : 2 * q + 1 ≡ 2 * m - 1 = omega arith in
        let s = odd_square q in
        let t : m * m ≡ q * q + 2 * (q * 1) + 1 * 1 = ap (λ (z : ℕ). z * z) f ∙ square_add q 1 in
        let u : (2 * q + 1) * (2 * q + 1) < 4 * (m * m) = omega arith in
        let v : (2 * q + 1) * (2 * q + 1) * c < 4 * (m * m) * c = mul-lt-mul_of_pos_right u C in
        let w : 4 * (m * m) * c ≡ 4 * (m * m * c) = mul_assoc 4 (m * m) c in
        subst (λ (z : ℕ). z * z * c < 4 * (m * m * c + y)) g (omega arith)

    over : (m y c : ℕ) → y < m * c → 4 * (m * m * c + y) < (2 * m + 1) * (2 * m + 1) * c
    over m y c Y =
        let e : (2 * m + 1) * (2 * m + 1) * c ≡ (4 * (m * m) + 4 * m) * c + 1 * c = ap (λ (z : ℕ). z * c) (odd_square m) ∙ add-mul (4 * (m * m) + 4 * m) 1 c in
        let f : (4 * (m * m) + 4 * m) * c ≡ 4 * (m * m) * c + 4 * m * c = add-mul (4 * (m * m)) (4 * m) c in
        let g : 4 * (m * m) * c ≡ 4 * (m * m * c) = mul_assoc 4 (m * m) c in
        let h : 4 * m * c ≡ 4 * (m * c) = mul_assoc 4 m c in
        omega arith

-- ---- the check's result, of 53 digits but not the least such number
pub guarded : (m n p k i s : ℕ) → k ≤ p → Settled s (4 * (m * m * 4 ^ k + n * n)) (4 ^ (k + i)) → 2 ^ 52 < s → s < 2 ^ 53 → Hits (sum_of m n p k) (p + i) s
guarded m n p k i s h (inl e) a b = absurd (none s e a)
  where
    none : (s : ℕ) → s ≡ 0 → 2 ^ 52 < s → ⊥
    none s e h = omega arith
guarded m n p k i s h (inr (z, l, u)) a b =
    let c = 4 ^ (k + i) in
    let f = m * m * 4 ^ k + n * n in
    let x : 2 ^ 53 + 1 ≤ 2 * s - 1 = omega arith in
    let y : 2 * s + 1 ≤ 2 ^ 54 - 1 = omega arith in
    let L : 2 ^ 106 * c ≤ 4 * f = le_trans (mul-le-mul_right c (le_trans (lit≤ {m = 2 ^ 106} tt) (mul-le-mul x x))) (weak l) in
    let U : 4 * f < 2 ^ 108 * c = lt_of_lt_of_le u (mul-le-mul_right c (le_trans (mul-le-mul y y) (lit≤ tt))) in
    record {
      high = sum_lt m n p k i (2 ^ 106) h (lt_of_mul-lt-mul_left 4 (lt_of_lt_of_le U (le_of_eq (mul_assoc 4 (2 ^ 106) c))));
      low = inr (sum_ge m n p k i (2 ^ 104) h (le_of_mul-le-mul_left (le_trans (le_of_eq (sym (mul_assoc 4 (2 ^ 104) c))) L) (lit< {m = 0} {n = 4} tt)));
      nearest = lifted m n p k i s h (strictly (4 * f) c s l u);
    }
  where
    weak : {a b : ℕ} → a < b → a ≤ b
    weak h = le_of_lt h

-- j tells whether v has 110 digits
abbrev pub More : ℕ → ℕ → Type 0
More v j = ((j ≡ 0) × (v < 2 ^ 109)) ⊎ ((j ≡ 1) × (2 ^ 109 ≤ v) × (v < 2 ^ 110))

-- ---- the digits' way: v is the sum, lowered, j whether it has a digit more, and w is v lowered by j
module _ (m n p k v w j r : ℕ) (M : m < 2 ^ 53) (N : n < 2 ^ 53) (P : (p ≡ 0) ⊎ (2 ^ 52 ≤ m)) (K : k ≤ p)
    (a : Lowered (8 * (m * m) * 2 ^ (2 * k) + 8 * (n * n)) v (2 * k)) (b : Lowered v w (2 * j)) (near : NearestEven w 2 r) where
  abbrev u : ℕ
  u = 8 * (m * m) * 2 ^ (2 * k) + 8 * (n * n)

  abbrev f : ℕ
  f = m * m * 4 ^ k + n * n

  eight : u ≡ 8 * f
  eight = ap (λ (z : ℕ). z + 8 * (n * n)) (mul_assoc 8 (m * m) (2 ^ (2 * k)) ∙ ap (λ (z : ℕ). 8 * (m * m * z)) (sym (four k)))
      ∙ sym (mul-add 8 (m * m * 4 ^ k) (n * n))

  at_f : NearestEven (4 * f) (4 ^ (k + j)) r
  at_f =
      unscaled (4 * f) (4 ^ (k + j)) r 2 (lit< tt)
      (subst (λ (z : ℕ). NearestEven z (4 ^ (k + j) * 2) r) (eight ∙ twice f)
      (subst (λ (z : ℕ). NearestEven u z r) (mul_comm 2 (2 ^ (2 * k + 2 * j)) ∙ ap (λ (z : ℕ). z * 2) (ap (λ (z : ℕ). 2 ^ z) (sum k j) ∙ sym (four (k + j))))
      (nearest_lowered u w (2 * k + 2 * j) r (lowered_both u v w (2 * k) (2 * j) a b) near)))
    where
      twice : (f : ℕ) → 8 * f ≡ 4 * f * 2
      twice f = omega arith

      sum : (k j : ℕ) → 2 * k + 2 * j ≡ 2 * (k + j)
      sum k j = omega arith

  -- v against a number of digits
  under : (d : ℕ) → 8 * d % 2 ≡ 0 → v < 8 * d → f < d * 4 ^ k
  under d e h = lt_of_mul-lt-mul_left 8 (lt_of_le_of_lt (le_of_eq (sym eight))
      (lt_of_lt_of_le (less_than u v (2 * k) (8 * d) e a h) (le_of_eq (mul_assoc 8 d (2 ^ (2 * k)) ∙ ap (λ (z : ℕ). 8 * (d * z)) (sym (four k))))))

  not_under : (d : ℕ) → 8 * d % 2 ≡ 0 → 8 * d ≤ v → d * 4 ^ k ≤ f
  not_under d e h = le_of_mul-le-mul_left (le_trans (le_of_eq (ap (λ (z : ℕ). 8 * (d * z)) (four k) ∙ sym (mul_assoc 8 d (2 ^ (2 * k)))))
      (le_trans (at_least u v (2 * k) (8 * d) e a h) (le_of_eq eight))) (lit< {m = 0} {n = 8} tt)

  pub by_sum : More v j → Hits (sum_of m n p k) (p + j) r
  by_sum (inl (e, h)) =
      record {
        high = sum_lt m n p k j (2 ^ 106) K (subst (λ (z : ℕ). f < 2 ^ 106 * 4 ^ z) (plain k j e) (under (2 ^ 106) refl h));
        low = first P;
        nearest = lifted m n p k j r K at_f;
      }
    where
      plain : (k j : ℕ) → j ≡ 0 → k ≡ k + j
      plain k j e = omega arith

      first : (p ≡ 0) ⊎ (2 ^ 52 ≤ m) → (p + j ≡ 0) ⊎ (2 ^ 104 * 4 ^ (p + j) ≤ sum_of m n p k)
      first (inl q) = inl (zero_both p j q e)
        where
          zero_both : (p j : ℕ) → p ≡ 0 → j ≡ 0 → p + j ≡ 0
          zero_both p j a b = omega arith
      first (inr q) =
          inr (sum_ge m n p k j (2 ^ 104) K
          (subst (λ (z : ℕ). 2 ^ 104 * 4 ^ z ≤ f) (plain k j e) (le_trans (mul-le-mul_right (4 ^ k) (mul-le-mul q q)) (front (m * m * 4 ^ k) (n * n)))))
        where
          front : (a b : ℕ) → a ≤ a + b
          front a b = omega arith
  by_sum (inr (e, l, h)) =
      let g : 4 * 4 ^ k ≡ 4 ^ (k + j) = sym (pow-succ' 4 k) ∙ ap (λ (z : ℕ). 4 ^ z) (next k j e) in
      let x : 2 ^ 107 * 4 ^ k ≤ 2 ^ 106 * 4 ^ (k + j) = le_trans (mul-le-mul_right (4 ^ k) (lit≤ {m = 2 ^ 107} {n = 2 ^ 106 * 4} tt))
      (le_of_eq (mul_assoc (2 ^ 106) 4 (4 ^ k) ∙ ap (λ (z : ℕ). 2 ^ 106 * z) g)) in
      let y : 2 ^ 104 * 4 ^ (k + j) ≡ 2 ^ 106 * 4 ^ k = ap (λ (z : ℕ). 2 ^ 104 * z) (sym g) ∙ sym (mul_assoc (2 ^ 104) 4 (4 ^ k)) in
      record {
        high = sum_lt m n p k j (2 ^ 106) K (lt_of_lt_of_le (under (2 ^ 107) refl h) x);
        low = inr (sum_ge m n p k j (2 ^ 104) K (le_trans (le_of_eq y) (not_under (2 ^ 106) refl l)));
        nearest = lifted m n p k j r K at_f;
      }
    where
      next : (k j : ℕ) → j ≡ 1 → suc k ≡ k + j
      next k j e = omega arith

-- a digit more
pub more : (vh vl : ℕ) → vh < 2 ^ 55 → vl < 2 ^ 55 → More (vh * 2 ^ 55 + vl) (vh / 2 ^ 54)
more vh vl H L = go (vh / 2 ^ 54) refl (few vh H)
  where
    few : (h : ℕ) → h < 2 ^ 55 → h / 2 ^ 54 < 2
    few h H = omega arith

    go : (j : ℕ) → vh / 2 ^ 54 ≡ j → j < 2 → More (vh * 2 ^ 55 + vl) (vh / 2 ^ 54)
    go zero e h = inl (e, omega arith)
    go (suc zero) e h = inr (e, omega arith, omega arith)
    go (suc (suc j)) e h = absurd (none j h)
      where
        none : (j : ℕ) → suc (suc j) < 2 → ⊥
        none j h = omega arith
