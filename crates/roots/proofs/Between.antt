-- The root is the nearest f64 (`root_nearest`): the squares of the two middles to its neighbours enclose x.
use Rattle.std.proofs.Common.{◌≡◌, ℕ, zero, suc, ◌+◌, ◌-◌, ◌*◌, ◌/◌, ◌%◌, ◌^◌, ◌<◌, ◌≤◌, Bool, true, false, cond, T, eqb, leb, ◌⊎◌, sym, refl, ap, ◌∙◌, subst, inl, inr, lt_of_lt_of_le, le_of_suc-le-suc, le-add_right, zero-lt-suc, mul_assoc, eq-or-lt_of_le, mul_right_comm, mul-div_cancel, arith, lit<, pow_pos, pow_mono, pow-add, shl_lt}
use mathlib.Core.Bool.{false≢true}
use native.Mathlib.Nat.{eq_of_mul-eq-mul_right}
use lib.Count.{count_leading_zeros}
use lib.Ieee.{Float, nan, inf, fin, binary64, up, down, fits, units, of_fields, to_bits}
use lib.Ieee.Exact.{HasValue, units_val}
use lib.Ieee.Positive.{positive, den, den_pos, value→cross}
use Rattle.roots.specs.Root.{nearest_root, Nearest, root_of_units, root_of, RootBetween}
use Rattle.roots.proofs.Squares.{square_add, square_twice, nearest_root_lem, nearest-ge, nearest_lt}
use Rattle.numbers.proofs.Patterns.{apart, exponent_of, fraction_of, exponent_lt, fraction_lt, special, normal_value, subnormal_value}
use Rattle.roots.proofs.Units.{root_is, units_root, units_square, significand}
use Rattle.roots.proofs.Fields.{shifted_up}

-- ---- an f64 above zero is m * 2 ^ (52 + e) / 2 ^ 2148, for an m of 53 digits
pub record Normal (x : Float) : Type 0 where
  pub m : ℕ
  pub e : ℕ
  pub low : 2 ^ 52 ≤ m
  pub high : m < 2 ^ 53
  pub small : e / 2 < 2 ^ 11 - 2
  pub value : HasValue x false (m * 2 ^ (52 + e)) (2 ^ 2148)

-- from one denominator to another
rescaled : (x : Float) (a b c d : ℕ) → 0 < c → 0 < d → a * d ≡ b * c → HasValue x false a c → HasValue x false b d
rescaled nan a b c d C D e h = h
rescaled (inf s) a b c d C D e h = h
rescaled (fin s m z) a b c d C D e h = (
  h.0,
  eq_of_mul-eq-mul_right c C (m * up z * d) (b * down z) (mul_right_comm (m * up z) d c
      ∙ ap (λ (n : ℕ). n * d) h.1 ∙ mul_right_comm a (down z) d ∙ ap (λ (n : ℕ). n * down z) e ∙ mul_right_comm b c (down z)),
)

not_minus : (x : Float) (a c : ℕ) → T (positive x) → HasValue x true a c → ⊥
not_minus nan a c p h = p
not_minus (inf s) a c p h = p
not_minus (fin true m e) a c p h = p
not_minus (fin false m e) a c p h = false≢true h.0

not_special : (s b : Bool) → T (positive (cond b (inf s) nan)) → ⊥
not_special s true p = p
not_special s false p = p

high_lt : (f : ℕ) → f < 2 ^ 52 → 2 ^ 52 + f < 2 ^ 53
high_lt f h = omega arith

low_is : (f : ℕ) → f < 2 ^ 52 → T (positive (of_fields binary64 false 0 f)) → Normal (of_fields binary64 false 0 f)
low_is zero h p = absurd (unfold of_fields in p)
low_is (suc g) h p =
    let f = suc g in
    let z = count_leading_zeros 64 f in
    let s = shifted_up f (zero-lt-suc g) h in
    let w = s.whole in
    let e = 1022 - (z - 11) in
    record {
      m = f * 2 ^ (z - 11);
      e = e;
      low = subst (λ (n : ℕ). 2 ^ 52 ≤ n) w s.low;
      high = subst (λ (n : ℕ). n < 2 ^ 53) w s.high;
      small = half z;
      value = rescaled (of_fields binary64 false 0 f) f (f * 2 ^ (z - 11) * 2 ^ (52 + e)) (2 ^ 1074) (2 ^ 2148) (pow_pos 1074) (pow_pos 2148)
          (sym (ap (λ (n : ℕ). n * 2 ^ 1074) (mul_assoc f (2 ^ (z - 11)) (2 ^ (52 + e))
          ∙ ap (λ (n : ℕ). f * n) (sym (pow-add 2 (z - 11) (52 + e)) ∙ ap (λ (n : ℕ). 2 ^ n) (sum z s.few))) ∙ mul_assoc f (2 ^ 1074) (2 ^ 1074)))
          (subnormal_value false f);
    }
  where
    half : (z : ℕ) → (1022 - (z - 11)) / 2 < 2 ^ 11 - 2
    half z = omega arith

    sum : (z : ℕ) → z ≤ 63 → z - 11 + (52 + (1022 - (z - 11))) ≡ 1074
    sum z h = omega arith

normal_is : (k f : ℕ) → k < 2 ^ 11 - 2 → f < 2 ^ 52 → Normal (of_fields binary64 false (suc k) f)
normal_is k f K h =
    let m = 2 ^ 52 + f in
    record {
      m = m;
      e = k + 1022;
      low = le-add_right (2 ^ 52) f;
      high = high_lt f h;
      small = half k K;
      value = rescaled (of_fields binary64 false (suc k) f) (m * 2 ^ k) (m * 2 ^ (52 + (k + 1022))) (2 ^ 1074) (2 ^ 2148) (pow_pos 1074) (pow_pos 2148)
          (mul_assoc m (2 ^ k) (2 ^ 2148) ∙ ap (λ (n : ℕ). m * n) (sym (pow-add 2 k 2148) ∙ ap (λ (n : ℕ). 2 ^ n) (sum k) ∙ pow-add 2 (52 + (k + 1022)) 1074)
          ∙ sym (mul_assoc m (2 ^ (52 + (k + 1022))) (2 ^ 1074)))
          (normal_value false k f K);
    }
  where
    half : (k : ℕ) → k < 2 ^ 11 - 2 → (k + 1022) / 2 < 2 ^ 11 - 2
    half k h = omega arith

    sum : (k : ℕ) → k + 2148 ≡ 52 + (k + 1022) + 1074
    sum k = omega arith

fields_are : (s : Bool) (e f : ℕ) → e < 2 ^ 11 → f < 2 ^ 52 → T (positive (of_fields binary64 s e f)) → Normal (of_fields binary64 s e f)
fields_are true zero f E h p = absurd (not_minus (of_fields binary64 true 0 f) f (2 ^ 1074) p (subnormal_value true f))
fields_are false zero f E h p = low_is f h p
fields_are s (suc k) f E h p = go s (eq-or-lt_of_le (le_of_suc-le-suc E)) p
  where
    go : (s : Bool) → (suc k ≡ 2 ^ 11 - 1) ⊎ (suc k < 2 ^ 11 - 1) → T (positive (of_fields binary64 s (suc k) f)) → Normal (of_fields binary64 s (suc k) f)
    go s (inl q) p = absurd (not_special s (eqb f 0) (subst (λ (x : Float). T (positive x)) (ap (λ (n : ℕ). of_fields binary64 s n f) q ∙ special s f) p))
    go true (inr q) p = absurd (not_minus (of_fields binary64 true (suc k) f) ((2 ^ 52 + f) * 2 ^ k) (2 ^ 1074) p (normal_value true k f (le_of_suc-le-suc q)))
    go false (inr q) p = normal_is k f (le_of_suc-le-suc q) h

pub normalised : (x : Float) → T (fits binary64 x) → T (positive x) → Normal x
normalised x h p =
    let b = to_bits binary64 x in
    let s = leb (2 ^ 63) b in
    let e = apart x s h refl in
    subst Normal (sym e) (fields_are s (exponent_of b) (fraction_of b) (exponent_lt b) (fraction_lt b) (subst (λ (y : Float). T (positive y)) e p))

-- ---- the theorem
units_value : (q k : ℕ) → q < 2 ^ 53 → k < 2 ^ 11 - 2 → HasValue (units binary64 false q k) false (q * 2 ^ k) (2 ^ 1074)
units_value q k h K = units_val binary64 false q k (lt_of_lt_of_le (shl_lt 53 k h) (pow_mono (fit k K)))
  where
    fit : (k : ℕ) → k < 2 ^ 11 - 2 → 53 + k ≤ 2098
    fit k h = omega arith

middle : (n q : ℕ) → 0 < q → Nearest n q → ((2 * q - 1) * (2 * q - 1) < 4 * n) × (4 * n < (2 * q + 1) * (2 * q + 1))
middle n zero z a = absurd (none z)
  where
    none : 0 < 0 → ⊥
    none z = omega arith
middle n (suc r) z a =
    let q = suc r in
    let t = 2 * r + 1 in
    let e : 2 * q - 1 ≡ t = omega arith in
    let x : 2 * q * (2 * q) ≡ 4 * (q * q) = square_twice q in
    let y : (2 * q + 1) * (2 * q + 1) ≡ 2 * q * (2 * q) + 2 * (2 * q * 1) + 1 * 1 = square_add (2 * q) 1 in
    let u : (t + 1) * (t + 1) ≡ t * t + 2 * (t * 1) + 1 * 1 = square_add t 1 in
    let v : t + 1 ≡ 2 * q = omega arith in
    let w : (t + 1) * (t + 1) ≡ 2 * q * (2 * q) = ap (λ (m : ℕ). m * m) v in
    let b = a.below in
    let c = a.above in (
      subst (λ (m : ℕ). m * m < 4 * n) (sym e) (lower n r (q * q) (t * t) ((t + 1) * (t + 1)) (2 * q * (2 * q)) u w x c),
      upper n q (q * q) (2 * q * (2 * q)) ((2 * q + 1) * (2 * q + 1)) b x y,
    )
  where
    lower : (n r qq tt uu ww : ℕ) → uu ≡ tt + 2 * ((2 * r + 1) * 1) + 1 * 1 → uu ≡ ww → ww ≡ 4 * qq → qq < n + suc r → tt < 4 * n
    lower n r qq tt uu ww a b c d = omega arith

    upper : (n q qq ww uu : ℕ) → n ≤ qq + q → ww ≡ 4 * qq → uu ≡ ww + 2 * (2 * q * 1) + 1 * 1 → 4 * n < uu
    upper n q qq ww uu a b c = omega arith

pub root_nearest : (x : Float) → T (fits binary64 x) → T (positive x) → RootBetween x (root_of x)
root_nearest x h p =
    let d = normalised x h p in
    let m = d.m in
    let e = d.e in
    let k = e / 2 in
    let n = m * 2 ^ (e % 2) * 2 ^ 52 in
    let s = significand m e d.low d.high in
    let q = nearest_root n in
    let a : Nearest n q = nearest_root_lem n (lt_of_lt_of_le (lit< tt) s.0) (below n s.1) in
    let l = nearest-ge a s.0 in
    let g = nearest_lt a s.1 in
    let c = value→cross x (m * 2 ^ (52 + e)) (2 ^ 2148) d.value in
    let r : root_of x ≡ units binary64 false q k =
    root_is x p ∙ ap root_of_units (ap (λ (z : ℕ). z / den x) c ∙ mul-div_cancel (m * 2 ^ (52 + e)) (den_pos x)) ∙ units_root m e d.low d.high in
    let z = middle n q (lt_of_lt_of_le (lit< tt) l) a in
    record {
      q = q;
      k = k;
      n = n;
      digits = (l, g);
      root = subst (λ (y : Float). HasValue y false (q * 2 ^ k) (2 ^ 1074)) (sym r) (units_value q k g d.small);
      square = subst (λ (y : ℕ). HasValue x false y (2 ^ 2148)) (units_square m e) d.value;
      above = z.0;
      below = z.1;
      least = s.0;
    }
  where
    below : (n : ℕ) → n + 2 ^ 53 ≤ 2 ^ 106 → n < 4 ^ 53
    below n h = omega arith
