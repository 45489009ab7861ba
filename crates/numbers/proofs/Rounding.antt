-- Why masking the digits behind the point rounds down: without a minus they are cut off; with one they are filled up first, and the carry grows the whole part.
use Rattle.std.proofs.Common.{◌≡◌, ℕ, zero, suc, ◌+◌, ◌-◌, ◌*◌, ◌/◌, ◌%◌, ◌^◌, ◌<◌, ◌≤◌, Bool, true, false, cond, not, T, eqb, ◌⊎◌, sym, refl, ap, ◌∙◌, subst, inl, inr, le_trans, le_of_eq, lt_of_lt_of_le, le_of_suc-le-suc, le-add_right, lt_of_le_of_lt, add-zero, le_of_lt, add_assoc, mul-le-mul_right, mod-lt, mod-eq_of_lt, mul_assoc, suc-mul, mul_comm, div-lt_iff_lt-mul, add-mul, add_comm, le_antisymm, lt_of_mul-lt-mul_right, eq-or-lt_of_le, mul-lt-mul_of_pos_right, mul-pos, one-mul, mul-zero, div-add-mod', le-div_iff_mul-le, zero-add, mul-one, mul_right_comm, div-mul-le_self, le_of_mul-le-mul_right, div-one, arith, lit<, lit≤, pow_pos, pow_mono, pow-add, shl_lt}
use native.Mathlib.Nat.{add-mul-div_right}
use native.Mathlib.Nat.{div-eq_of_lt}
use lib.Bits.{bit_and, and_mask}
use lib.Ieee.{Float, nan, inf, fin, binary64, up, down, round, of_fields, of_bits, nan_bits}
use lib.Ieee.Fits.{down_pos}
use lib.Ieee.Exact.{HasValue}
use lib.Ieee.Nearest.{div_same}
use Rattle.numbers.specs.Rounding.{size_down, round_down_of}
use Rattle.numbers.proofs.Patterns.{normal, normal_value, subnormal_value, special, apart_bits, exponent_of, fraction_of}
use Rattle.numbers.proofs.Patterns.{fraction_lt, sign_clear, sign_set, fields_clear, fields_set}
use Rattle.numbers.proofs.Significands.{in-range, odd_enough, round_units, round_pattern}

-- ---- the size, by the value
up_is : (n d c : ℕ) → 0 < d → n ≤ c * d → c * d < n + d → (n + (d - 1)) / d ≡ c
up_is n d c z a b =
    le_antisymm
    (le_of_suc-le-suc ((div-lt_iff_lt-mul {k = d} {x = n + (d - 1)} {y = suc c} z).1
    (subst (λ (x : ℕ). n + (d - 1) < x) (sym (suc-mul c d)) (high n d (c * d) z a))))
    ((le-div_iff_mul-le {k = d} {x = c} {y = n + (d - 1)} z).1 (low n d (c * d) z b))
  where
    high : (n d cd : ℕ) → 0 < d → n ≤ cd → n + (d - 1) < cd + d
    high n d cd z a = omega arith

    low : (n d cd : ℕ) → 0 < d → cd < n + d → cd ≤ n + (d - 1)
    low n d cd z b = omega arith

pub up_says : (n d : ℕ) → 0 < d → (n ≤ (n + (d - 1)) / d * d) × ((n + (d - 1)) / d * d < n + d)
up_says n d z =
    let e = div-add-mod' (n + (d - 1)) d in
    let l = mod-lt (n + (d - 1)) z in
    (low n d ((n + (d - 1)) / d * d) ((n + (d - 1)) % d) e l z, high n d ((n + (d - 1)) / d * d) ((n + (d - 1)) % d) e l z)
  where
    low : (n d q r : ℕ) → q + r ≡ n + (d - 1) → r < d → 0 < d → n ≤ q
    low n d q r e l z = omega arith

    high : (n d q r : ℕ) → q + r ≡ n + (d - 1) → r < d → 0 < d → q < n + d
    high n d q r e l z = omega arith

pub size_same : (s : Bool) (a b c d : ℕ) → 0 < b → 0 < d → a * d ≡ c * b → size_down s a b ≡ size_down s c d
size_same false a b c d B D e = div_same a b c d B D e
size_same true a b c d B D e =
    let w = (c + (d - 1)) / d in
    let u = up_says c d D in
    up_is a b w B
    (le_of_mul-le-mul_right {k = d} (le_trans (le_of_eq e) (le_trans (mul-le-mul_right b u.0) (le_of_eq (mul_right_comm w d b)))) D)
    (lt_of_mul-lt-mul_right d (lt_of_le_of_lt (le_of_eq (mul_right_comm w b d)) (lt_of_lt_of_le (mul-lt-mul_of_pos_right u.1 B)
    (le_of_eq (add-mul c d b ∙ ap (λ (x : ℕ). x + d * b) (sym e) ∙ ap (λ (x : ℕ). a * d + x) (mul_comm d b) ∙ sym (add-mul a b d))))))

pub down_value : (x : Float) (s : Bool) (a c : ℕ) → 0 < c → HasValue x s a c → round_down_of x ≡ round binary64 s (size_down s a c) 1
unfolding round_down_of
down_value nan s a c z h = absurd h
down_value (inf t) s a c z h = absurd h
down_value (fin t m e) s a c z h =
    ap (λ (b : Bool). round binary64 b (size_down b (m * up e) (down e)) 1) h.0
    ∙ ap (λ (n : ℕ). round binary64 s n 1) (size_same s (m * up e) (down e) a c (down_pos e) z h.1)

-- ---- the low digits cut off: X is a significand and h the fields above it, and low digits of X stand behind the point
cut_sum : (h x low : ℕ) → low ≤ 52 → (h * 2 ^ 52 + x) / 2 ^ low * 2 ^ low ≡ h * 2 ^ 52 + x / 2 ^ low * 2 ^ low
cut_sum h x low l =
    let b = 2 ^ low in
    let c = h * 2 ^ (52 - low) in
    let e : h * 2 ^ 52 ≡ c * b = ap (λ (n : ℕ). h * 2 ^ n) (back low l) ∙ ap (λ (n : ℕ). h * n) (pow-add 2 (52 - low) low)
    ∙ sym (mul_assoc h (2 ^ (52 - low)) b) in
    ap (λ (n : ℕ). n / b * b) (ap (λ (n : ℕ). n + x) e ∙ add_comm (c * b) x)
    ∙ ap (λ (n : ℕ). n * b) (add-mul-div_right x c (pow_pos low))
    ∙ add-mul (x / b) c b
    ∙ add_comm (x / b * b) (c * b)
    ∙ ap (λ (n : ℕ). n + x / b * b) (sym e)
  where
    back : (low : ℕ) → low ≤ 52 → 52 ≡ 52 - low + low
    back low l = omega arith

-- the digits that are kept: from 2 ^ 52 up to 2 ^ 53
kept : (s : Bool) (m low : ℕ) → low ≤ 52 → 2 ^ 52 ≤ m → m < 2 ^ 53 → (2 ^ 52 ≤ size_down s m (2 ^ low) * 2 ^ low) × (size_down s m (2 ^ low) * 2 ^ low ≤ 2 ^ 53)
kept s m low l a h = go s
  where
    back : (low n : ℕ) → low ≤ n → n ≡ n - low + low
    back low n l = omega arith

    wide : (low : ℕ) → low ≤ 52 → low ≤ 53
    wide low l = omega arith

    power : (n : ℕ) → low ≤ n → 2 ^ n ≡ 2 ^ (n - low) * 2 ^ low
    power n k = ap (λ (x : ℕ). 2 ^ x) (back low n k) ∙ pow-add 2 (n - low) low

    below : (x y b p : ℕ) → x < y + b → y < p → x < p + b
    below x y b p h k = omega arith

    go : (s : Bool) → (2 ^ 52 ≤ size_down s m (2 ^ low) * 2 ^ low) × (size_down s m (2 ^ low) * 2 ^ low ≤ 2 ^ 53)
    go false = (
      le_trans (le_of_eq (power 52 l)) (mul-le-mul_right (2 ^ low) ((le-div_iff_mul-le (pow_pos low)).1 (le_trans (le_of_eq (sym (power 52 l))) a))),
      le_trans (div-mul-le_self m (2 ^ low)) (le_of_lt h),
    )
    go true =
        let u = up_says m (2 ^ low) (pow_pos low) in
        let w = (m + (2 ^ low - 1)) / 2 ^ low in
        let p = power 53 (wide low l) in (
          le_trans a u.0,
          le_trans (mul-le-mul_right (2 ^ low) (le_of_suc-le-suc (lt_of_mul-lt-mul_right (2 ^ low) (lt_of_lt_of_le (below (w * 2 ^ low) m (2 ^ low)
              (2 ^ (53 - low) * 2 ^ low) u.1 (lt_of_lt_of_le h (le_of_eq p))) (le_of_eq (sym (suc-mul (2 ^ (53 - low)) (2 ^ low)))))))) (le_of_eq (sym p)),
        )

-- ---- a number from 1 on with digits behind the point: its exponent's field is suc k, and low digits are behind the point
pub down_middle : (s : Bool) (k low f : ℕ) → low + k ≡ 1074 → low ≤ 52 → f < 2 ^ 52
    → (of_bits binary64 (cond s (2 ^ 63) 0 + (k * 2 ^ 52 + size_down s (2 ^ 52 + f) (2 ^ low) * 2 ^ low)) ≡ round_down_of (of_fields binary64 s (suc k) f))
    × T (not (nan_bits binary64 (cond s (2 ^ 63) 0 + (k * 2 ^ 52 + size_down s (2 ^ 52 + f) (2 ^ low) * 2 ^ low))))
    × (size_down s (2 ^ 52 + f) (2 ^ low) * 2 ^ low ≤ 2 ^ 53)
down_middle s k low f j l h =
    let m = 2 ^ 52 + f in
    let w = size_down s m (2 ^ low) in
    let p : 2 ^ 1074 ≡ 2 ^ low * 2 ^ k = ap (λ (n : ℕ). 2 ^ n) (sym j) ∙ pow-add 2 low k in
    let q = kept s m low l (le-add_right (2 ^ 52) f) (high f h) in
    let r = round_pattern s w (w * 2 ^ low) k q.0 q.1 (small low k j) (ap (λ (n : ℕ). w * n) p ∙ sym (mul_assoc w (2 ^ low) (2 ^ k))) in
    let v = down_value (of_fields binary64 s (suc k) f) s (m * 2 ^ k) (2 ^ 1074) (pow_pos 1074) (normal_value s k f (under low k j)) in
    let e : size_down s (m * 2 ^ k) (2 ^ 1074) ≡ w = size_same s (m * 2 ^ k) (2 ^ 1074) m (2 ^ low) (pow_pos 1074) (pow_pos low) (mul_assoc m (2 ^ k) (2 ^ low)
    ∙ ap (λ (n : ℕ). m * n) (mul_comm (2 ^ k) (2 ^ low) ∙ sym p)) in
    (sym (v ∙ ap (λ (n : ℕ). round binary64 s n 1) e ∙ r.0), r.1, q.1)
  where
    high : (f : ℕ) → f < 2 ^ 52 → 2 ^ 52 + f < 2 ^ 53
    high f h = omega arith

    small : (low k : ℕ) → low + k ≡ 1074 → k < 2 ^ 11 - 3
    small low k h = omega arith

    under : (low k : ℕ) → low + k ≡ 1074 → k < 2 ^ 11 - 2
    under low k h = omega arith

-- the same as the machine has it: b is the pattern, and `1 << low` is 2 ^ low
pub one_shifted : (low : ℕ) → low ≤ 52 → 1 * 2 ^ low % 2 ^ 64 ≡ 2 ^ low
one_shifted low l = ap (λ (n : ℕ). n % 2 ^ 64) (one-mul (2 ^ low)) ∙ mod-eq_of_lt (lt_of_le_of_lt (pow_mono l) (lit< tt))

-- without its low digits, and without them once they are added
abbrev pub cut_off : ℕ → ℕ → ℕ
cut_off b low = b / 2 ^ low * 2 ^ low % 2 ^ 64

abbrev pub grown : ℕ → ℕ → ℕ
grown b low = b + (1 * 2 ^ low % 2 ^ 64 - 1)

pub record Cut (r : ℕ) (x : Float) : Type 0 where
  pub no_nan : T (not (nan_bits binary64 r))
  pub is : of_bits binary64 r ≡ round_down_of x

cut_made : (s : Bool) (k low f h x : ℕ) → low + k ≡ 1074 → low ≤ 52 → f < 2 ^ 52 → h * 2 ^ 52 ≡ cond s (2 ^ 63) 0 + k * 2 ^ 52
    → x / 2 ^ low ≡ size_down s (2 ^ 52 + f) (2 ^ low) → (b : ℕ) → b ≡ h * 2 ^ 52 + x
    → Cut (cut_off b low) (of_fields binary64 s (suc k) f)
cut_made s k low f h x j l F e g b q =
    let w = size_down s (2 ^ 52 + f) (2 ^ low) in
    let d = down_middle s k low f j l F in
    let p : b / 2 ^ low * 2 ^ low % 2 ^ 64 ≡ cond s (2 ^ 63) 0 + (k * 2 ^ 52 + w * 2 ^ low) =
    ap (λ (n : ℕ). n / 2 ^ low * 2 ^ low % 2 ^ 64) q
    ∙ ap (λ (n : ℕ). n % 2 ^ 64) (cut_sum h x low l ∙ ap (λ (n : ℕ). n + x / 2 ^ low * 2 ^ low) e
    ∙ add_assoc (cond s (2 ^ 63) 0) (k * 2 ^ 52) (x / 2 ^ low * 2 ^ low) ∙ ap (λ (n : ℕ). cond s (2 ^ 63) 0 + (k * 2 ^ 52 + n * 2 ^ low)) g)
    ∙ mod-eq_of_lt (fit s (w * 2 ^ low) d.2) in
    record { no_nan = subst (λ (n : ℕ). T (not (nan_bits binary64 n))) (sym p) d.1; is = ap (of_bits binary64) p ∙ d.0 }
  where
    few : (k : ℕ) → low + k ≡ 1074 → k ≤ 1074
    few k h = omega arith

    fit : (s : Bool) (n : ℕ) → n ≤ 2 ^ 53 → cond s (2 ^ 63) 0 + (k * 2 ^ 52 + n) < 2 ^ 64
    fit true n h = let z = few k j in omega arith
    fit false n h = let z = few k j in omega arith

-- a clear sign: the low digits are cut off
pub cut_clear_lem : (e low f b : ℕ) → low + e ≡ 1075 → 1 ≤ low → low ≤ 52 → f < 2 ^ 52 → b ≡ 0 + (e * 2 ^ 52 + f) → Cut (cut_off b low) (of_fields binary64 false e f)
cut_clear_lem zero low f b j o l F q = absurd (none low j l)
  where
    none : (low : ℕ) → low + 0 ≡ 1075 → low ≤ 52 → ⊥
    none low j l = omega arith
cut_clear_lem (suc k) low f b j o l F q = cut_made false k low f k (2 ^ 52 + f) (less low k j) l F (sym (zero-add (k * 2 ^ 52))) refl b (q ∙ sum k f)
  where
    less : (low k : ℕ) → low + suc k ≡ 1075 → low + k ≡ 1074
    less low k j = omega arith

    sum : (k f : ℕ) → 0 + (suc k * 2 ^ 52 + f) ≡ k * 2 ^ 52 + (2 ^ 52 + f)
    sum k f = omega arith

-- a set sign: all of them are added first
pub cut_set : (e low f b : ℕ) → low + e ≡ 1075 → 1 ≤ low → low ≤ 52 → f < 2 ^ 52 → b ≡ 2 ^ 63 + (e * 2 ^ 52 + f)
    → Cut (cut_off (grown b low) low) (of_fields binary64 true e f)
cut_set zero low f b j o l F q = absurd (none low j l)
  where
    none : (low : ℕ) → low + 0 ≡ 1075 → low ≤ 52 → ⊥
    none low j l = omega arith
cut_set (suc k) low f b j o l F q =
    cut_made true k low f (2048 + k) (2 ^ 52 + f + (2 ^ low - 1)) (less low k j) l F (sign k) refl (grown b low)
    (ap (λ (n : ℕ). b + (n - 1)) (one_shifted low l) ∙ ap (λ (n : ℕ). n + (2 ^ low - 1)) q ∙ sum k f (2 ^ low - 1))
  where
    less : (low k : ℕ) → low + suc k ≡ 1075 → low + k ≡ 1074
    less low k j = omega arith

    sign : (k : ℕ) → (2048 + k) * 2 ^ 52 ≡ 2 ^ 63 + k * 2 ^ 52
    sign k = omega arith

    sum : (k f z : ℕ) → 2 ^ 63 + (suc k * 2 ^ 52 + f) + z ≡ (2048 + k) * 2 ^ 52 + (2 ^ 52 + f + z)
    sum k f z = omega arith

-- ---- both at once, as code has it: what is added is times the sign, and the low digits are masked off
abbrev pub behind : ℕ → ℕ
behind low = 1 * 2 ^ low % 2 ^ 64 - 1

abbrev pub stepped : ℕ → ℕ → ℕ
stepped b low = b + behind low * (b / 2 ^ 63)

pub behind_is : (low : ℕ) → low ≤ 52 → (1 ≤ 1 * 2 ^ low % 2 ^ 64) × (behind low < 2 ^ 52)
behind_is low l = subst (λ (n : ℕ). (1 ≤ n) × (n - 1 < 2 ^ 52)) (sym (one_shifted low l)) (pow_pos low, go (2 ^ low) (pow_pos low) (pow_mono l))
  where
    go : (n : ℕ) → 1 ≤ n → n ≤ 2 ^ 52 → n - 1 < 2 ^ 52
    go n h l = omega arith

masked : (t low : ℕ) → t < 2 ^ 64 → low ≤ 52 → cut_off t low ≡ t - bit_and t (behind low)
masked t low h l =
    mod-eq_of_lt (lt_of_le_of_lt (div-mul-le_self t (2 ^ low)) h)
    ∙ rest (t / 2 ^ low * 2 ^ low) (t % 2 ^ low) t (div-add-mod' t (2 ^ low))
    ∙ ap (λ (n : ℕ). t - n) (sym (ap (λ (n : ℕ). bit_and t (n - 1)) (one_shifted low l) ∙ and_mask t low))
  where
    rest : (q r t : ℕ) → q + r ≡ t → q ≡ t - r
    rest q r t e = omega arith

abbrev pub Stepped : ℕ → ℕ → Type 0
Stepped b low = (stepped b low < 2 ^ 64) × Cut (stepped b low - bit_and (stepped b low) (behind low)) (of_bits binary64 b)

-- t is the pattern stepped, by its sign
of_cut : (b low t : ℕ) (x : Float) → low ≤ 52 → stepped b low ≡ t → t < 2 ^ 64 → of_bits binary64 b ≡ x → Cut (cut_off t low) x → Stepped b low
of_cut b low t x l e h p c =
    subst (λ (n : ℕ). (n < 2 ^ 64) × Cut (n - bit_and n (behind low)) (of_bits binary64 b)) (sym e)
    (h, subst (λ (n : ℕ). Cut n (of_bits binary64 b)) (masked t low h l) (subst (Cut (cut_off t low)) (sym p) c))

pub cut_any : (b low : ℕ) → b < 2 ^ 64 → low + exponent_of b ≡ 1075 → 1 ≤ low → low ≤ 52 → Stepped b low
cut_any b low h j o l = go (b / 2 ^ 63) refl (bit b h)
  where
    bit : (b : ℕ) → b < 2 ^ 64 → b / 2 ^ 63 < 2
    bit b h = omega arith

    go : (n : ℕ) → b / 2 ^ 63 ≡ n → n < 2 → Stepped b low
    go zero e k =
        of_cut b low b (of_fields binary64 false (exponent_of b) (fraction_of b)) l
        (ap (λ (n : ℕ). b + behind low * n) e ∙ ap (λ (n : ℕ). b + n) (mul-zero (behind low)) ∙ add-zero b) h
        (apart_bits b false (sign_clear b e))
        (cut_clear_lem (exponent_of b) low (fraction_of b) b j o l (fraction_lt b) (fields_clear b h e))
    go (suc zero) e k =
        let n : b / 2 ^ 63 ≡ 0 → ⊥ = λ z. one 0 (sym e ∙ z) in
        of_cut b low (grown b low) (of_fields binary64 true (exponent_of b) (fraction_of b)) l
        (ap (λ (n : ℕ). b + behind low * n) e ∙ ap (λ (n : ℕ). b + n) (mul-one (behind low)))
        (subst (λ (n : ℕ). n + behind low < 2 ^ 64) (sym (fields_set b h n))
        (sum (exponent_of b) (fraction_of b) (behind low) j (fraction_lt b) (behind_is low l).1))
        (apart_bits b true (sign_set b n))
        (cut_set (exponent_of b) low (fraction_of b) b j o l (fraction_lt b) (fields_set b h n))
      where
        one : (n : ℕ) → suc n ≡ 0 → ⊥
        one n z = omega arith

        sum : (e f z : ℕ) → low + e ≡ 1075 → f < 2 ^ 52 → z < 2 ^ 52 → 2 ^ 63 + (e * 2 ^ 52 + f) + z < 2 ^ 64
        sum e f z j F Z = omega arith
    go (suc (suc n)) e k = absurd (no n k)
      where
        no : (n : ℕ) → suc (suc n) < 2 → ⊥
        no n k = omega arith

-- ---- a number without digits behind the point, or an infinity
itself : (s b : Bool) → cond b (inf s) nan ≡ round_down_of (cond b (inf s) nan)
unfolding round_down_of
itself s true = refl
itself s false = refl

pub down_whole : (s : Bool) (e f : ℕ) → 1075 ≤ e → e < 2 ^ 11 → f < 2 ^ 52 → of_fields binary64 s e f ≡ round_down_of (of_fields binary64 s e f)
down_whole s zero f l E h = absurd (none l)
  where
    none : 1075 ≤ 0 → ⊥
    none l = omega arith
down_whole s (suc k) f l E h = go (eq-or-lt_of_le (le_of_suc-le-suc E))
  where
    back : (k : ℕ) → 1075 ≤ suc k → k ≡ k - 1074 + 1074
    back k h = omega arith

    high : (f : ℕ) → f < 2 ^ 52 → 2 ^ 52 + f < 2 ^ 53
    high f h = omega arith

    same : (s : Bool) (n : ℕ) → size_down s n 1 ≡ n
    same false n = div-one n
    same true n = div-one (n + 0) ∙ add-zero n

    go : (suc k ≡ 2 ^ 11 - 1) ⊎ (suc k < 2 ^ 11 - 1) → of_fields binary64 s (suc k) f ≡ round_down_of (of_fields binary64 s (suc k) f)
    go (inl p) =
        let q = ap (λ (n : ℕ). of_fields binary64 s n f) p ∙ special s f in
        q ∙ itself s (eqb f 0) ∙ ap round_down_of (sym q)
    go (inr p) =
        let m = 2 ^ 52 + f in
        let n = m * 2 ^ (k - 1074) in
        let K : k < 2 ^ 11 - 2 = le_of_suc-le-suc p in
        let r : n * 2 ^ 1074 ≡ m * 2 ^ k = mul_assoc m (2 ^ (k - 1074)) (2 ^ 1074)
        ∙ ap (λ (x : ℕ). m * x) (sym (pow-add 2 (k - 1074) 1074) ∙ ap (λ (x : ℕ). 2 ^ x) (sym (back k l))) in
        let v = down_value (of_fields binary64 s (suc k) f) s (m * 2 ^ k) (2 ^ 1074) (pow_pos 1074) (normal_value s k f K) in
        let e : size_down s (m * 2 ^ k) (2 ^ 1074) ≡ n =
        size_same s (m * 2 ^ k) (2 ^ 1074) n 1 (pow_pos 1074) (lit< tt) (mul-one (m * 2 ^ k) ∙ sym r) ∙ same s n in
        normal s k f K
        ∙ sym (in-range s m k (high f h) K ∙ odd_enough 53 s m k 1074 (lt_of_lt_of_le (lit< tt) (le-add_right (2 ^ 52) f)) (high f h))
        ∙ sym (v ∙ ap (λ (x : ℕ). round binary64 s x 1) e ∙ round_units s n m k (le-add_right (2 ^ 52) f) (high f h) r)

-- ---- a number below 1, and a zero
pub down_zero : (s : Bool) → of_fields binary64 s 0 0 ≡ round_down_of (of_fields binary64 s 0 0)
unfolding round_down_of of_fields round
down_zero true = refl
down_zero false = refl

-- a / 2 ^ 1074 is below 1
small_is : (x : Float) (s : Bool) (a : ℕ) → 0 < a → a < 2 ^ 1074 → HasValue x s a (2 ^ 1074) → round binary64 s (cond s 1 0) 1 ≡ round_down_of x
small_is x false a z h v = sym (down_value x false a (2 ^ 1074) (pow_pos 1074) v ∙ ap (λ (n : ℕ). round binary64 false n 1) (div-eq_of_lt h))
small_is x true a z h v =
    sym (down_value x true a (2 ^ 1074) (pow_pos 1074) v ∙ ap (λ (n : ℕ). round binary64 true n 1) (up_is a (2 ^ 1074) 1 (pow_pos 1074)
    (le_trans (le_of_lt h) (le_of_eq (sym (one-mul (2 ^ 1074))))) (lt_of_le_of_lt (le_of_eq (one-mul (2 ^ 1074))) (more a (2 ^ 1074) z))))
  where
    more : (a p : ℕ) → 0 < a → p < a + p
    more a p z = omega arith

pub down_small : (s : Bool) (e f : ℕ) → e < 1023 → f < 2 ^ 52 → (e ≡ 0 → f ≡ 0 → ⊥) → round binary64 s (cond s 1 0) 1 ≡ round_down_of (of_fields binary64 s e f)
down_small s zero f E h n =
    small_is (of_fields binary64 s 0 f) s f (some f (n refl)) (lt_of_lt_of_le h (pow_mono {i = 52} {j = 1074} (lit≤ tt))) (subnormal_value s f)
  where
    some : (f : ℕ) → (f ≡ 0 → ⊥) → 0 < f
    some f h = omega arith
down_small s (suc k) f E h n =
    small_is (of_fields binary64 s (suc k) f) s ((2 ^ 52 + f) * 2 ^ k) (mul-pos (lt_of_lt_of_le (lit< tt) (le-add_right (2 ^ 52) f)) (pow_pos k))
    (lt_of_lt_of_le (shl_lt 53 k (high f h)) (pow_mono (fit k E))) (normal_value s k f (under k E))
  where
    high : (f : ℕ) → f < 2 ^ 52 → 2 ^ 52 + f < 2 ^ 53
    high f h = omega arith

    fit : (k : ℕ) → suc k < 1023 → 53 + k ≤ 1074
    fit k h = omega arith

    under : (k : ℕ) → suc k < 1023 → k < 2 ^ 11 - 2
    under k h = omega arith
