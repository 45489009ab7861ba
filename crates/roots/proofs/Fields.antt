-- What `root_of` gives for each kind of fields: zeros, infinities and NaNs, negative numbers, subnormal and normal ones.
use Rattle.std.proofs.Common.{◌≡◌, ℕ, zero, suc, ◌+◌, ◌-◌, ◌*◌, ◌%◌, ◌^◌, ◌<◌, ◌≤◌, Bool, true, false, cond, not, T, eqb, leb, pos, negsuc, sym, refl, ap, ◌∙◌, subst, le_trans, le_of_eq, lt_of_lt_of_le, le_of_suc-le-suc, le-add_right, lt_irrefl, mul-le-mul_right, mod-eq_of_lt, mul_assoc, mul-pos, pow-suc, lt_of_not-le, zero-mul, mul-one, arith, lit<, eqb→eq, leb→le, T_not, pow_pos, pow_mono, pow-add, shl_lt}
use mathlib.Core.Bool.{false≢true}
use lib.Dec.{nleb→lt}
use lib.Arith.{lt_of_le-ne}
use lib.Count.{count_leading_zeros, leading_top}
use lib.Ieee.{Float, nan, inf, fin, binary64, up, minus, of_fields, of_bits, div}
use lib.Ieee.Digits.{minus_val}
use lib.Ieee.Fits.{down_pos, eq→eqb}
use lib.Ieee.Exact.{HasValue}
use Rattle.roots.specs.Root.{root_of}
use Rattle.roots.specs.Inside.{Exponent}
use Rattle.numbers.proofs.Patterns.{subnormal_value, normal_value, special}
use Rattle.roots.proofs.Units.{root_same}

-- ---- what has no root, and what is its own
root_negative : (x : Float) (a c : ℕ) → 0 < a → HasValue x true a c → root_of x ≡ nan
unfolding root_of
root_negative nan a c p h = refl
root_negative (inf s) a c p h = absurd h
root_negative (fin false m e) a c p h = absurd (false≢true h.0)
root_negative (fin true zero e) a c p h =
    absurd (lt_irrefl 0 (subst (λ (n : ℕ). 0 < n) (sym h.1 ∙ ap (λ (n : ℕ). n * c) (zero-mul (up e)) ∙ zero-mul c) (mul-pos p (down_pos e))))
root_negative (fin true (suc m) e) a c p h = refl

pub not_a_number : div binary64 (of_bits binary64 0) (of_bits binary64 0) ≡ nan
unfolding div of_bits
not_a_number = refl

pub root_nan : (x : Float) → x ≡ nan → x ≡ root_of x
unfolding root_of
root_nan x e = e ∙ ap root_of (sym e)

pub root_zero : (s : Bool) → of_fields binary64 s 0 0 ≡ root_of (of_fields binary64 s 0 0)
unfolding root_of of_fields
root_zero s = refl

root_special : (s b : Bool) → cond b (inf false) nan ≡ root_of (cond b (inf false) nan)
unfolding root_of
root_special s true = refl
root_special s false = refl

pub root_infinite : (f : ℕ) → of_fields binary64 false (2 ^ 11 - 1) f ≡ root_of (of_fields binary64 false (2 ^ 11 - 1) f)
root_infinite f = special false f ∙ root_special false (eqb f 0) ∙ ap root_of (sym (special false f))

minus_special : (b : Bool) → root_of (cond b (inf true) nan) ≡ nan
unfolding root_of
minus_special true = refl
minus_special false = refl

root_minus_low : (f : ℕ) → 0 < f → root_of (of_fields binary64 true 0 f) ≡ nan
root_minus_low f p = root_negative (of_fields binary64 true 0 f) f (2 ^ 1074) p (subnormal_value true f)

root_minus : (e f : ℕ) → (e ≡ 0 → ⊥) → e < 2 ^ 11 → root_of (of_fields binary64 true e f) ≡ nan
root_minus zero f n h = absurd (n refl)
root_minus (suc e) f n h = go (eqb (suc e) 2047) (eqb→eq (suc e) 2047) (λ k. lt_of_le-ne (le_of_suc-le-suc h) (λ p. T_not (eqb (suc e) 2047) k (eq→eqb p)))
  where
    go : (b : Bool) → (T b → suc e ≡ 2047) → (T (not b) → suc e < 2047) → root_of (of_fields binary64 true (suc e) f) ≡ nan
    go true p q = ap (λ (n : ℕ). root_of (of_fields binary64 true n f)) (p tt) ∙ ap root_of (special true f) ∙ minus_special (eqb f 0)
    go false p q = root_negative (of_fields binary64 true (suc e) f) ((2 ^ 52 + f) * 2 ^ e) (2 ^ 1074)
        (mul-pos (lt_of_lt_of_le (lit< tt) (le-add_right (2 ^ 52) f)) (pow_pos e)) (normal_value true e f (le_of_suc-le-suc (q tt)))

pub root_minus_any : (e f : ℕ) → e < 2 ^ 11 → (e ≡ 0 → f ≡ 0 → ⊥) → root_of (of_fields binary64 true e f) ≡ nan
root_minus_any zero f h n = root_minus_low f (some f (n refl))
  where
    some : (f : ℕ) → (f ≡ 0 → ⊥) → 0 < f
    some f n = omega arith
root_minus_any (suc e) f h n = root_minus (suc e) f (λ z. no e z) h
  where
    no : (e : ℕ) → suc e ≡ 0 → ⊥
    no e z = omega arith

-- ---- a number above zero
pub root_low : (f : ℕ) → 0 < f → root_of (fin false f (negsuc 1073)) ≡ root_of (of_fields binary64 false 0 f)
root_low f p =
    root_same (fin false f (negsuc 1073)) (of_fields binary64 false 0 f) f (2 ^ 1074) f (2 ^ 1074) p p (pow_pos 1074) (pow_pos 1074)
    (refl, ap (λ (n : ℕ). n * 2 ^ 1074) (mul-one f)) (subnormal_value false f) refl

pub root_normal : (e f : ℕ) → (e ≡ 0 → ⊥) → (e ≡ 2 ^ 11 - 1 → ⊥) → e < 2 ^ 11
    → root_of (fin false (2 ^ 52 + f) (minus e 1075)) ≡ root_of (of_fields binary64 false e f)
root_normal zero f n k h = absurd (n refl)
root_normal (suc e) f n k h =
    let m = 2 ^ 52 + f in
    let M : 0 < m = lt_of_lt_of_le (lit< tt) (le-add_right (2 ^ 52) f) in
    root_same (fin false m (minus (suc e) 1075)) (of_fields binary64 false (suc e) f) (m * 2 ^ suc e) (2 ^ 1075) (m * 2 ^ e) (2 ^ 1074)
    (mul-pos M (pow_pos (suc e))) (mul-pos M (pow_pos e)) (pow_pos 1075) (pow_pos 1074)
    (refl, minus_val m (suc e) 1075) (normal_value false e f (below e h k))
    (mul_assoc m (2 ^ suc e) (2 ^ 1074)
    ∙ ap (λ (n : ℕ). m * n) (ap (λ (n : ℕ). n * 2 ^ 1074) (pow-suc 2 e) ∙ mul_assoc (2 ^ e) 2 (2 ^ 1074))
    ∙ sym (mul_assoc m (2 ^ e) (2 ^ 1075)))
  where
    below : (e : ℕ) → suc e < 2 ^ 11 → (suc e ≡ 2 ^ 11 - 1 → ⊥) → e < 2 ^ 11 - 2
    below e h k = omega arith

-- ---- exponents
pub exponent_minus : (a b : ℕ) → a ≤ b + 971 → b ≤ a + 1126 → Exponent (minus a b)
unfolding Exponent
exponent_minus a b h k = go (leb b a) (leb→le b a) (nleb→lt b a)
  where
    go : (t : Bool) → (T t → b ≤ a) → (T (not t) → a < b) → Exponent (cond t (pos (a - b)) (negsuc (b - suc a)))
    go true p q = let r = p tt in omega arith
    go false p q = let r = q tt in omega arith

-- ---- a subnormal's fraction, shifted up by its count of leading zeros
pub record Shifted (f z : ℕ) : Type 0 where
  pub enough : 11 ≤ z
  pub few : z ≤ 63
  pub low : 2 ^ 52 ≤ f * 2 ^ (z - 11) % 2 ^ 64
  pub high : f * 2 ^ (z - 11) % 2 ^ 64 < 2 ^ 53
  pub whole : f * 2 ^ (z - 11) % 2 ^ 64 ≡ f * 2 ^ (z - 11)

pub shifted_up : (f : ℕ) → 0 < f → f < 2 ^ 52 → Shifted f (count_leading_zeros 64 f)
shifted_up f p h =
    let t = leading_top 64 f p (wider f h) in
    go (count_leading_zeros 64 f) t.0 t.1 t.2 t.3
  where
    wider : (f : ℕ) → f < 2 ^ 52 → f < 2 ^ 64
    wider f h = omega arith

    least : (z j : ℕ) → z + suc j ≡ 64 → 2 ^ j ≤ f → 12 ≤ z
    least z j e l = lt_of_not-le (λ (g : z ≤ 11). lt_irrefl f (lt_of_lt_of_le h (le_trans (pow_mono (big z j e g)) l)))
      where
        big : (z j : ℕ) → z + suc j ≡ 64 → z ≤ 11 → 52 ≤ j
        big z j e g = omega arith

    go : (z j : ℕ) → z + suc j ≡ 64 → 2 ^ j ≤ f → f < 2 ^ suc j → Shifted f z
    go z j e l u =
        let k = least z j e l in
        let a : 2 ^ 52 ≤ f * 2 ^ (z - 11) =
        le_trans (le_of_eq (ap (λ (n : ℕ). 2 ^ n) (sum z j e k) ∙ pow-add 2 j (z - 11))) (mul-le-mul_right (2 ^ (z - 11)) l) in
        let b : f * 2 ^ (z - 11) < 2 ^ 53 = subst (λ (n : ℕ). f * 2 ^ (z - 11) < 2 ^ n) (sum' z j e k) (shl_lt (suc j) (z - 11) u) in
        let w : f * 2 ^ (z - 11) % 2 ^ 64 ≡ f * 2 ^ (z - 11) = mod-eq_of_lt (lt_of_lt_of_le b (pow_mono {i = 53} {j = 64} (omega arith))) in
        record {
          enough = at_least z k;
          few = at_most z j e;
          low = subst (λ (n : ℕ). 2 ^ 52 ≤ n) (sym w) a;
          high = subst (λ (n : ℕ). n < 2 ^ 53) (sym w) b;
          whole = w;
        }
      where
        sum : (z j : ℕ) → z + suc j ≡ 64 → 12 ≤ z → 52 ≡ j + (z - 11)
        sum z j e k = omega arith

        sum' : (z j : ℕ) → z + suc j ≡ 64 → 12 ≤ z → suc j + (z - 11) ≡ 53
        sum' z j e k = omega arith

        at_least : (z : ℕ) → 12 ≤ z → 11 ≤ z
        at_least z k = omega arith

        at_most : (z j : ℕ) → z + suc j ≡ 64 → z ≤ 63
        at_most z j e = omega arith

-- it is the same number
pub root_shifted : (f z : ℕ) → 0 < f → root_of (fin false (f * 2 ^ z) (minus 0 (1074 + z))) ≡ root_of (fin false f (negsuc 1073))
root_shifted f z p =
    root_same (fin false (f * 2 ^ z) (minus 0 (1074 + z))) (fin false f (negsuc 1073)) (f * 2 ^ z * 2 ^ 0) (2 ^ (1074 + z)) f (2 ^ 1074)
    (mul-pos (mul-pos p (pow_pos z)) (pow_pos 0)) p (pow_pos (1074 + z)) (pow_pos 1074)
    (refl, minus_val (f * 2 ^ z) 0 (1074 + z)) (refl, ap (λ (n : ℕ). n * 2 ^ 1074) (mul-one f))
    (ap (λ (n : ℕ). n * 2 ^ 1074) (mul-one (f * 2 ^ z)) ∙ mul_assoc f (2 ^ z) (2 ^ 1074)
    ∙ ap (λ (n : ℕ). f * n) (sym (pow-add 2 z 1074) ∙ ap (λ (n : ℕ). 2 ^ n) (swap z)))
  where
    swap : (z : ℕ) → z + 1074 ≡ 1074 + z
    swap z = omega arith
