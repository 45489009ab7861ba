-- Roots stand in the order of what they are roots of (`root_mono`), for finite numbers above zero.
use Rattle.std.proofs.Common.{◌≡◌, ℕ, suc, ◌+◌, ◌-◌, ◌*◌, ◌^◌, ◌<◌, ◌≤◌, Bool, true, false, not, T, ltb, ◌⊎◌, sym, ap, ◌∙◌, subst, inl, inr, le_trans, le_of_eq, lt_of_lt_of_le, le_of_suc-le-suc, lt_of_le_of_lt, le_of_lt, lt_irrefl, mul-le-mul_right, zero-lt-suc, mul_assoc, mul-le-mul, eq-or-lt_of_le, mul-le-mul_left, mul-lt-mul_of_pos_right, lt_of_not-le, le_of_mul-le-mul_right, arith, lit<, ltb→lt, nltb→le, pow_pos, pow_mono}
use native.Mathlib.Nat.{pow-succ', pow-le-pow_right}
use lib.Ieee.{Float, binary64, fits, le}
use lib.Ieee.Order.{le_of_values}
use lib.Ieee.Positive.{positive, values_of_le}
use Rattle.roots.specs.Root.{root_of}
use Rattle.roots.proofs.Units.{four}
use Rattle.roots.proofs.Between.{root_nearest}

-- the square of a q is below 2 ^ 106, and so is n
n_lt : (q n : ℕ) → q < 2 ^ 53 → 4 * n < (2 * q + 1) * (2 * q + 1) → n < 2 ^ 106
n_lt q n h b =
    let u : 2 * q + 1 ≤ 2 ^ 54 - 1 = omega arith in
    let x : (2 * q + 1) * (2 * q + 1) ≤ (2 ^ 54 - 1) * (2 ^ 54 - 1) = mul-le-mul u u in
    omega arith

-- at one exponent: the larger n has a root that is no smaller
same_exponent : (n m p q : ℕ) → 0 < q → n ≤ m → (2 * q - 1) * (2 * q - 1) < 4 * n → 4 * m < (2 * p + 1) * (2 * p + 1) → q ≤ p
same_exponent n m p q z h a b = le_of_suc-le-suc (lt_of_not-le (λ (g : suc p ≤ q). above g))
  where
    above : suc p ≤ q → ⊥
    above g =
        let u : 2 * p + 1 ≤ 2 * q - 1 = omega arith in
        let x : (2 * p + 1) * (2 * p + 1) ≤ (2 * q - 1) * (2 * q - 1) = mul-le-mul u u in
        omega arith

three_ways : (k j : ℕ) → (k < j) ⊎ ((k ≡ j) ⊎ (j < k))
three_ways k j = go (ltb k j) (ltb→lt k j) (nltb→le k j)
  where
    other : (k ≡ j) ⊎ (j < k) → (k < j) ⊎ ((k ≡ j) ⊎ (j < k))
    other w = inr w

    turned : (j ≡ k) ⊎ (j < k) → (k ≡ j) ⊎ (j < k)
    turned (inl e) = inl (sym e)
    turned (inr l) = inr l

    go : (b : Bool) → (T b → k < j) → (T (not b) → j ≤ k) → (k < j) ⊎ ((k ≡ j) ⊎ (j < k))
    go true p q = inl (p tt)
    go false p q = other (turned (eq-or-lt_of_le (q tt)))

four_pos : (k : ℕ) → 0 < 4 ^ k
four_pos k = subst (λ (x : ℕ). 0 < x) (sym (four k)) (pow_pos (2 * k))

-- a higher exponent: the number is larger, and so is the root
root_lower : (p q j k : ℕ) → q < 2 ^ 53 → 2 ^ 52 ≤ p → k < j → q * 2 ^ k ≤ p * 2 ^ j
root_lower p q j k h l g =
    le_trans (mul-le-mul_right (2 ^ k) (le_of_lt h))
    (le_trans (le_of_eq (mul_assoc (2 ^ 52) 2 (2 ^ k) ∙ ap (λ (x : ℕ). 2 ^ 52 * x) (sym (pow-succ' 2 k))))
    (le_trans (mul-le-mul_left (2 ^ 52) (pow_mono g)) (mul-le-mul_right (2 ^ j) l)))

square_lower : (n m j k : ℕ) → 2 ^ 104 ≤ n → m < 2 ^ 106 → k < j → m * 4 ^ k < n * 4 ^ j
square_lower n m j k l h g =
    lt_of_lt_of_le (mul-lt-mul_of_pos_right h (four_pos k))
    (le_trans (le_of_eq (mul_assoc (2 ^ 104) 4 (4 ^ k) ∙ ap (λ (x : ℕ). 2 ^ 104 * x) (sym (pow-succ' 4 k))))
    (le_trans (mul-le-mul_left (2 ^ 104) (pow-le-pow_right (zero-lt-suc 3) g)) (mul-le-mul_right (4 ^ j) l)))

pub root_mono : (x y : Float) → T (fits binary64 x) → T (fits binary64 y) → T (positive x) → T (positive y) → T (le x y) → T (le (root_of x) (root_of y))
root_mono x y f g p q h =
    let a = root_nearest x f p in
    let b = root_nearest y g q in
    let c : a.n * 4 ^ a.k ≤ b.n * 4 ^ b.k =
    le_of_mul-le-mul_right (values_of_le x y _ (2 ^ 2148) _ (2 ^ 2148) p q a.square b.square h) (pow_pos 2148) in
    le_of_values (root_of x) (root_of y) (a.q * 2 ^ a.k) (2 ^ 1074) (b.q * 2 ^ b.k) (2 ^ 1074) (pow_pos 1074) (pow_pos 1074) a.root b.root
    (mul-le-mul_right (2 ^ 1074)
    (go a.q a.k a.n b.q b.k b.n a.digits.0 a.digits.1 b.digits.0 b.digits.1 a.above b.below a.least c))
  where
    go : (q k n p j m : ℕ) → 2 ^ 52 ≤ q → q < 2 ^ 53 → 2 ^ 52 ≤ p → p < 2 ^ 53 → (2 * q - 1) * (2 * q - 1) < 4 * n → 4 * m < (2 * p + 1) * (2 * p + 1)
        → 2 ^ 104 ≤ n → n * 4 ^ k ≤ m * 4 ^ j → q * 2 ^ k ≤ p * 2 ^ j
    go q k n p j m a b c d u v l h = pick (three_ways k j)
      where
        pick : (k < j) ⊎ ((k ≡ j) ⊎ (j < k)) → q * 2 ^ k ≤ p * 2 ^ j
        pick (inl g) = root_lower p q j k b c g
        pick (inr (inl e)) =
            subst (λ (i : ℕ). q * 2 ^ k ≤ p * 2 ^ i) e
            (mul-le-mul_right (2 ^ k) (same_exponent n m p q (lt_of_lt_of_le (lit< tt) a)
            (le_of_mul-le-mul_right (le_trans h (le_of_eq (ap (λ (i : ℕ). m * 4 ^ i) (sym e)))) (four_pos k)) u v))
        pick (inr (inr g)) = absurd (lt_irrefl (n * 4 ^ k) (lt_of_le_of_lt h (square_lower n m k j l (n_lt p m d v) g)))
