-- The f64 that is q * 2 ^ k smallest ones, for a q of 53 digits: its bits are (k << 52) + q under the sign (`units_pattern`), and a whole number of that value
-- rounds to it (`round_pattern`).
use Rattle.std.proofs.Common.{◌≡◌, ℕ, zero, suc, ◌+◌, ◌-◌, ◌*◌, ◌/◌, ◌%◌, ◌^◌, ◌<◌, ◌≤◌, Bool, false, cond, not, T, ltb, ◌⊎◌, sym, refl, ap, ◌∙◌, subst, inl, inr, le_trans, le_of_eq, lt_of_lt_of_le, lt_irrefl, mul-le-mul_right, mul_assoc, add-sub_of_le, le_antisymm, eq-or-lt_of_le, mul-pos, one-mul, lt_of_not-le, zero-add, not-le_of_lt, div-one, mul-div_cancel, arith, lit<, lit≤, lt→ltb, pow_pos, pow_mono, pow-add, shl_lt}
use Prim.Native.Nat.compare
use Prim.Native.Nat.{compare, Ordering}
use native.Mathlib.Nat.{mul-mod_left, pow-succ'}
use lib.Count.{count_trailing_zeros, under}
use lib.Ieee.{inf, binary64, size, nearest, odd, units, round, of_bits, nan_bits}
use lib.Ieee.Digits.{size-lt, size-le}
use lib.Ieee.Bits.{is_true}
use lib.Ieee.Fits.{core, round_is}
use Rattle.numbers.proofs.Patterns.{made, made_no_nan, normal}

-- ---- how many digits
pub size_is : (n a : ℕ) → 2 ^ a ≤ n → n < 2 ^ suc a → size n ≡ suc a
size_is n a lo hi = le_antisymm (size-le n (suc a) hi) (lt_of_not-le (λ (g : size n ≤ a). not-le_of_lt (lt_of_lt_of_le (size-lt n) (pow_mono g)) lo))

-- ---- the pattern of q * 2 ^ k smallest values, for a q of 53 digits
enough : (d q : ℕ) → 0 < q → q < 2 ^ d → count_trailing_zeros (suc d) q ≡ count_trailing_zeros d q
unfolding count_trailing_zeros
enough zero q z h = absurd (none q z h)
  where
    none : (q : ℕ) → 0 < q → q < 1 → ⊥
    none q z h = omega arith
enough (suc d) q z h = go (q % 2) refl (λ e. enough d (q / 2) (half q z e) (low q (2 ^ d) (subst (λ (x : ℕ). q < x) (pow-succ' 2 d) h)))
  where
    half : (q : ℕ) → 0 < q → q % 2 ≡ 0 → 0 < q / 2
    half q z e = omega arith

    low : (q p : ℕ) → q < 2 * p → q / 2 < p
    low q p h = omega arith

    go : (r : ℕ) → q % 2 ≡ r → (q % 2 ≡ 0 → count_trailing_zeros (suc d) (q / 2) ≡ count_trailing_zeros d (q / 2))
        → under r (count_trailing_zeros (suc d) (q / 2)) ≡ under r (count_trailing_zeros d (q / 2))
    go zero e f = ap suc (f e)
    go (suc r) e f = refl

pub odd_enough : (d : ℕ) (s : Bool) (q k l : ℕ) → 0 < q → q < 2 ^ d → odd (suc d) s q k l ≡ odd d s q k l
unfolding odd
odd_enough d s zero k l z h = refl
odd_enough d s (suc q) k l z h = rw (enough d (suc q) z h)

pub in-range : (s : Bool) (q k : ℕ) → q < 2 ^ 53 → k < 2 ^ 11 - 2 → units binary64 s q k ≡ odd 54 s q k 1074
unfolding units
in-range s q k h l =
    ap (λ (t : Bool). cond t (odd 54 s q k 1074) (inf s))
    (is_true (ltb (q * 2 ^ k) (2 ^ 2098)) (lt→ltb (q * 2 ^ k) (2 ^ 2098) (lt_of_lt_of_le (shl_lt 53 k h) (pow_mono (fit k l)))))
  where
    fit : (k : ℕ) → k < 2 ^ 11 - 2 → 53 + k ≤ 2098
    fit k h = omega arith

-- the leading digit of q is not written: it adds one to the exponent's field
as_fields : (q k : ℕ) → 2 ^ 52 ≤ q → k * 2 ^ 52 + q ≡ suc k * 2 ^ 52 + (q - 2 ^ 52)
as_fields q k h = omega arith

rest_lt : (q : ℕ) → 2 ^ 52 ≤ q → q < 2 ^ 53 → q - 2 ^ 52 < 2 ^ 52
rest_lt q a b = omega arith

next_lt : (k c : ℕ) → k < c → suc k < suc c
next_lt k c h = omega arith

pub units_pattern : (s : Bool) (q k : ℕ) → 2 ^ 52 ≤ q → q < 2 ^ 53 → k < 2 ^ 11 - 2
    → of_bits binary64 (cond s (2 ^ 63) 0 + (k * 2 ^ 52 + q)) ≡ units binary64 s q k
units_pattern s q k l h K =
    ap (λ (x : ℕ). of_bits binary64 (cond s (2 ^ 63) 0 + x)) (as_fields q k l)
    ∙ made s (suc k) (q - 2 ^ 52) (omega arith) (rest_lt q l h)
    ∙ normal s k (q - 2 ^ 52) K
    ∙ ap (λ (x : ℕ). odd 53 s x k 1074) (add-sub_of_le l)
    ∙ sym (in-range s q k h K ∙ odd_enough 53 s q k 1074 (lt_of_lt_of_le (lit< tt) l) h)

pub pattern_no_nan : (s : Bool) (q k : ℕ) → 2 ^ 52 ≤ q → q < 2 ^ 53 → k < 2 ^ 11 - 2 → T (not (nan_bits binary64 (cond s (2 ^ 63) 0 + (k * 2 ^ 52 + q))))
pattern_no_nan s q k l h K = subst (λ (b : ℕ). T (not (nan_bits binary64 (cond s (2 ^ 63) 0 + b)))) (sym (as_fields q k l))
    (made_no_nan s (suc k) (q - 2 ^ 52) (next_lt k (2 ^ 11 - 2) K) (rest_lt q l h))

-- a sign that is clear adds nothing
pub plain_pattern : (q k : ℕ) → 2 ^ 52 ≤ q → q < 2 ^ 53 → k < 2 ^ 11 - 2 → of_bits binary64 (k * 2 ^ 52 + q) ≡ units binary64 false q k
plain_pattern q k l h K = ap (of_bits binary64) (sym (zero-add (k * 2 ^ 52 + q))) ∙ units_pattern false q k l h K

pub plain_no_nan : (q k : ℕ) → 2 ^ 52 ≤ q → q < 2 ^ 53 → k < 2 ^ 11 - 2 → T (not (nan_bits binary64 (k * 2 ^ 52 + q)))
plain_no_nan q k l h K = subst (λ (b : ℕ). T (not (nan_bits binary64 b))) (zero-add (k * 2 ^ 52 + q)) (pattern_no_nan false q k l h K)

-- ---- a whole number that is q * 2 ^ k smallest values, q having 53 digits, is that value
above_zero : (u : ℕ) → 0 < u → compare 0 u ≡ Ordering.lt
above_zero zero h = absurd (lt_irrefl 0 h)
above_zero (suc u) h = compare.zero-suc u

core_exact : (s : Bool) (k q : ℕ) → core binary64 s (q * (1 * 2 ^ k)) 1 k ≡ units binary64 s q k
core_exact s k q =
    let u = 1 * 2 ^ k in
    let z : 0 < u = mul-pos (lit< tt) (pow_pos k) in
    ap (λ (x : ℕ). units binary64 s (nearest x (compare (q * u % u * 2) u)) k) (mul-div_cancel q z)
    ∙ ap (λ (x : ℕ). units binary64 s (nearest q (compare (x * 2) u)) k) (mul-mod_left q u)
    ∙ ap (λ (o : Ordering). units binary64 s (nearest q o) k) (above_zero u z)

pub round_units : (s : Bool) (w q k : ℕ) → 2 ^ 52 ≤ q → q < 2 ^ 53 → w * 2 ^ 1074 ≡ q * 2 ^ k → round binary64 s w 1 ≡ units binary64 s q k
round_units s w q k l h e =
    let lo : 2 ^ (52 + k) ≤ q * 2 ^ k = le_trans (le_of_eq (pow-add 2 52 k)) (mul-le-mul_right (2 ^ k) l) in
    let hi : q * 2 ^ k < 2 ^ suc (52 + k) = subst (λ (x : ℕ). q * 2 ^ k < 2 ^ x) (digits k) (shl_lt 53 k h) in
    let z : size (w * 2 ^ 1074 / 1) - 53 ≡ k = ap (λ (x : ℕ). size x - 53) (div-one (w * 2 ^ 1074) ∙ e)
    ∙ ap (λ (x : ℕ). x - 53) (size_is (q * 2 ^ k) (52 + k) lo hi) ∙ less k in
    round_is binary64 s w 1
    ∙ ap (λ (x : ℕ). core binary64 s (w * 2 ^ 1074) 1 x) z
    ∙ ap (λ (x : ℕ). core binary64 s x 1 k) (e ∙ ap (λ (x : ℕ). q * x) (sym (one-mul (2 ^ k))))
    ∙ core_exact s k q
  where
    digits : (k : ℕ) → 53 + k ≡ suc (52 + k)
    digits k = omega arith

    less : (k : ℕ) → suc (52 + k) - 53 ≡ k
    less k = omega arith

-- ---- the same of a q of 2 ^ 53, where a digit was carried, and its pattern with a sign
pub round_pattern : (s : Bool) (w q k : ℕ) → 2 ^ 52 ≤ q → q ≤ 2 ^ 53 → k < 2 ^ 11 - 3 → w * 2 ^ 1074 ≡ q * 2 ^ k
    → (round binary64 s w 1 ≡ of_bits binary64 (cond s (2 ^ 63) 0 + (k * 2 ^ 52 + q))) × T (not (nan_bits binary64 (cond s (2 ^ 63) 0 + (k * 2 ^ 52 + q))))
round_pattern s w q k l h K e = go (eq-or-lt_of_le h)
  where
    wider : (k : ℕ) → k < 2 ^ 11 - 3 → k < 2 ^ 11 - 2
    wider k h = omega arith

    next : (k : ℕ) → k < 2 ^ 11 - 3 → suc k < 2 ^ 11 - 2
    next k h = omega arith

    carried : (k : ℕ) → suc k * 2 ^ 52 + 2 ^ 52 ≡ k * 2 ^ 52 + 2 ^ 53
    carried k = omega arith

    go : (q ≡ 2 ^ 53) ⊎ (q < 2 ^ 53) → (round binary64 s w 1 ≡ of_bits binary64 (cond s (2 ^ 63) 0 + (k * 2 ^ 52 + q)))
        × T (not (nan_bits binary64 (cond s (2 ^ 63) 0 + (k * 2 ^ 52 + q))))
    go (inr b) = (round_units s w q k l b e ∙ sym (units_pattern s q k l b (wider k K)), pattern_no_nan s q k l b (wider k K))
    go (inl b) =
        let f : suc k * 2 ^ 52 + 2 ^ 52 ≡ k * 2 ^ 52 + q = carried k ∙ ap (λ (x : ℕ). k * 2 ^ 52 + x) (sym b) in
        let g : w * 2 ^ 1074 ≡ 2 ^ 52 * 2 ^ suc k = e ∙ ap (λ (x : ℕ). x * 2 ^ k) b ∙ mul_assoc (2 ^ 52) 2 (2 ^ k)
        ∙ ap (λ (x : ℕ). 2 ^ 52 * x) (sym (pow-succ' 2 k)) in (
          round_units s w (2 ^ 52) (suc k) (lit≤ tt) (lit< tt) g
              ∙ sym (units_pattern s (2 ^ 52) (suc k) (lit≤ tt) (lit< tt) (next k K))
              ∙ ap (λ (x : ℕ). of_bits binary64 (cond s (2 ^ 63) 0 + x)) f,
          subst (λ (x : ℕ). T (not (nan_bits binary64 (cond s (2 ^ 63) 0 + x)))) f (pattern_no_nan s (2 ^ 52) (suc k) (lit≤ tt) (lit< tt) (next k K)),
        )
