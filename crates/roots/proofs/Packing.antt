-- Bits and counts: the bits p * 2 ^ 52 + q, q of 53 digits or p 0, are those of q * 2 ^ p smallest f64s (`packed`), from plus infinity's on it leaves the range
-- (`beyond`), and of the magnitude of a finite x they tell the count (`count_bits`).
use Rattle.std.proofs.Common.{◌≡◌, ℕ, zero, suc, ◌+◌, ◌-◌, ◌*◌, ◌/◌, ◌^◌, ◌<◌, ◌≤◌, Bool, true, false, cond, not, T, ltb, leb, ◌⊎◌, sym, refl, ap, ◌∙◌, subst, inl, inr, le_trans, le_of_eq, le_of_suc-le-suc, mul_assoc, mul-le-mul, eq-or-lt_of_le, zero-add, mul-one, mul-div_cancel, arith, lit<, lit≤, pow_mono, pow-add, le-ltb}
use native.Mathlib.Nat.{pow-succ'}
use lib.Count.{count_trailing_zeros}
use lib.Ieee.{Float, nan, inf, fin, binary64, down, odd, units, of_fields, of_bits, nan_bits}
use lib.Ieee.Fits.{down_pos}
use lib.Ieee.Exact.{HasValue}
use Rattle.numbers.proofs.Patterns.{made, made_no_nan, subnormal, normal_value, subnormal_value}
use Rattle.numbers.proofs.Significands.{in-range, odd_enough, plain_pattern, plain_no_nan}
use Rattle.roots.specs.Hypot.{count_of}
use Rattle.roots.specs.Inside.{place_of, digits_of, infinite_bits}

-- ---- bits put together
low_units : (q : ℕ) → q < 2 ^ 52 → odd 53 false q 0 1074 ≡ units binary64 false q 0
low_units zero h = unfold units odd in refl
low_units (suc q) h = sym (in-range false (suc q) 0 (wider (suc q) h) (lit< tt) ∙ odd_enough 53 false (suc q) 0 1074 (some q) (wider (suc q) h))
  where
    wider : (q : ℕ) → q < 2 ^ 52 → q < 2 ^ 53
    wider q h = omega arith

    some : (q : ℕ) → 0 < suc q
    some q = omega arith

-- a digit was carried
carried : (k : ℕ) → units binary64 false (2 ^ 52) (suc k) ≡ units binary64 false (2 ^ 53) k
unfolding units odd count_trailing_zeros
carried k =
    ap (λ (z : ℕ). cond (ltb z (2 ^ 2098)) (odd 54 false (2 ^ 52) (suc k) 1074) (inf false)) (ap (λ (z : ℕ). 2 ^ 52 * z) (pow-succ' 2 k)
    ∙ sym (mul_assoc (2 ^ 52) 2 (2 ^ k)))
    ∙ ap (λ (z : ℕ). cond (ltb (2 ^ 53 * 2 ^ k) (2 ^ 2098)) (fin false 1 (lib.Ieee.minus z 1074)) (inf false)) (sum k)
  where
    sum : (k : ℕ) → suc k + 52 ≡ k + 53
    sum k = omega arith

pub packed : (q k : ℕ) → q ≤ 2 ^ 53 → (k ≡ 0) ⊎ (2 ^ 52 ≤ q) → k * 2 ^ 52 + q < infinite_bits
    → (of_bits binary64 (k * 2 ^ 52 + q) ≡ units binary64 false q k) × T (not (nan_bits binary64 (k * 2 ^ 52 + q)))
packed q k h p l = go (eq-or-lt_of_le h) p (side q)
  where
    side : (q : ℕ) → (2 ^ 52 ≤ q) ⊎ (q < 2 ^ 52)
    side q = pick (leb (2 ^ 52) q) (lib.Dec.leb→le (2 ^ 52) q) (lib.Dec.nleb→lt (2 ^ 52) q)
      where
        pick : (b : Bool) → (T b → 2 ^ 52 ≤ q) → (T (not b) → q < 2 ^ 52) → (2 ^ 52 ≤ q) ⊎ (q < 2 ^ 52)
        pick true f g = inl (f tt)
        pick false f g = inr (g tt)

    low : (k q : ℕ) → k * 2 ^ 52 + q < infinite_bits → 2 ^ 52 ≤ q → k < 2 ^ 11 - 2
    low k q l h = omega arith

    high : (k : ℕ) → k * 2 ^ 52 + 2 ^ 53 < infinite_bits → suc k < 2 ^ 11 - 2
    high k l = omega arith

    field : (k : ℕ) → suc k * 2 ^ 52 + 2 ^ 52 ≡ k * 2 ^ 52 + 2 ^ 53
    field k = omega arith

    go : (q ≡ 2 ^ 53) ⊎ (q < 2 ^ 53) → (k ≡ 0) ⊎ (2 ^ 52 ≤ q) → (2 ^ 52 ≤ q) ⊎ (q < 2 ^ 52)
        → (of_bits binary64 (k * 2 ^ 52 + q) ≡ units binary64 false q k) × T (not (nan_bits binary64 (k * 2 ^ 52 + q)))
    go (inl e) p s =
        let K = high k (subst (λ (z : ℕ). k * 2 ^ 52 + z < infinite_bits) e l) in
        subst (λ (z : ℕ). (of_bits binary64 (k * 2 ^ 52 + z) ≡ units binary64 false z k) × T (not (nan_bits binary64 (k * 2 ^ 52 + z)))) (sym e) (
          ap (of_bits binary64) (sym (field k)) ∙ plain_pattern (2 ^ 52) (suc k) (lit≤ tt) (lit< tt) K ∙ carried k,
          subst (λ (z : ℕ). T (not (nan_bits binary64 z))) (field k) (plain_no_nan (2 ^ 52) (suc k) (lit≤ tt) (lit< tt) K),
        )
    go (inr u) p (inl s) = (plain_pattern q k s u (low k q l s), plain_no_nan q k s u (low k q l s))
    go (inr u) (inr p) (inr s) = absurd (none q p s)
      where
        none : (q : ℕ) → 2 ^ 52 ≤ q → q < 2 ^ 52 → ⊥
        none q a b = omega arith
    go (inr u) (inl p) (inr s) =
        subst (λ (z : ℕ). (of_bits binary64 (z * 2 ^ 52 + q) ≡ units binary64 false q z) × T (not (nan_bits binary64 (z * 2 ^ 52 + q)))) (sym p) (
          ap (of_bits binary64) (sym (zero-add (0 * 2 ^ 52 + q))) ∙ made false 0 q (lit< tt) s ∙ subnormal false q ∙ low_units q s,
          subst (λ (z : ℕ). T (not (nan_bits binary64 z))) (zero-add (0 * 2 ^ 52 + q)) (made_no_nan false 0 q (lit< tt) s),
        )

pub beyond : (q k : ℕ) → q ≤ 2 ^ 53 → (k ≡ 0) ⊎ (2 ^ 52 ≤ q) → infinite_bits ≤ k * 2 ^ 52 + q → units binary64 false q k ≡ inf false
unfolding units
beyond q k h p l = ap (λ (b : Bool). cond b (odd 54 false q k 1074) (inf false)) (le-ltb (q * 2 ^ k) (2 ^ 2098) (go p (eq-or-lt_of_le h)))
  where
    none : (k q : ℕ) → k ≡ 0 → q ≤ 2 ^ 53 → infinite_bits ≤ k * 2 ^ 52 + q → ⊥
    none k q e h l = omega arith

    top : (k q : ℕ) → q ≡ 2 ^ 53 → infinite_bits ≤ k * 2 ^ 52 + q → 2045 ≤ k
    top k q e l = omega arith

    under : (k q : ℕ) → q < 2 ^ 53 → infinite_bits ≤ k * 2 ^ 52 + q → 2046 ≤ k
    under k q e l = omega arith

    go : (k ≡ 0) ⊎ (2 ^ 52 ≤ q) → (q ≡ 2 ^ 53) ⊎ (q < 2 ^ 53) → 2 ^ 2098 ≤ q * 2 ^ k
    go (inl e) s = absurd (none k q e h l)
    go (inr e) (inl s) = le_trans (le_of_eq (pow-add 2 53 2045)) (mul-le-mul (le_of_eq (sym s)) (pow_mono (top k q s l)))
    go (inr e) (inr s) = le_trans (le_of_eq (pow-add 2 52 2046)) (mul-le-mul e (pow_mono (under k q s l)))

-- ---- bits taken apart
pub count_of_value : (x : Float) (s : Bool) (a : ℕ) → HasValue x s a (2 ^ 1074) → count_of x ≡ a
unfolding count_of
count_of_value nan s a h = absurd h
count_of_value (inf t) s a h = absurd h
count_of_value (fin t m e) s a h = ap (λ (z : ℕ). z / down e) h.1 ∙ mul-div_cancel a (down_pos e)

pub bits_value : (s : Bool) (e f a : ℕ) → e < 2 ^ 11 - 1 → f < 2 ^ 52 → a ≡ e * 2 ^ 52 + f
    → HasValue (of_fields binary64 s e f) s (digits_of a * 2 ^ place_of a) (2 ^ 1074)
bits_value s zero f a E h q =
    subst (λ (z : ℕ). HasValue (of_fields binary64 s 0 f) s z (2 ^ 1074))
    (sym (ap (λ (z : ℕ). (a - z * 2 ^ 52) * 2 ^ z) (place a f q h) ∙ mul-one (a - 0 * 2 ^ 52) ∙ digits a f q)) (subnormal_value s f)
  where
    place : (a f : ℕ) → a ≡ 0 * 2 ^ 52 + f → f < 2 ^ 52 → a / 2 ^ 52 - 1 ≡ 0
    place a f e h = omega arith

    digits : (a f : ℕ) → a ≡ 0 * 2 ^ 52 + f → a - 0 * 2 ^ 52 ≡ f
    digits a f e = omega arith
bits_value s (suc k) f a E h q =
    subst (λ (z : ℕ). HasValue (of_fields binary64 s (suc k) f) s z (2 ^ 1074)) (sym (ap (λ (z : ℕ). (a - z * 2 ^ 52) * 2 ^ z) (place a k f q h)
    ∙ ap (λ (z : ℕ). z * 2 ^ k) (digits a k f q))) (normal_value s k f (le_of_suc-le-suc E))
  where
    place : (a k f : ℕ) → a ≡ suc k * 2 ^ 52 + f → f < 2 ^ 52 → a / 2 ^ 52 - 1 ≡ k
    place a k f e h = omega arith

    digits : (a k f : ℕ) → a ≡ suc k * 2 ^ 52 + f → a - k * 2 ^ 52 ≡ 2 ^ 52 + f
    digits a k f e = omega arith
