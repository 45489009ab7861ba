-- hypot as a distance: it is nearest by squares (`hypot_between`), grows with each magnitude (`hypot_mono`), is the magnitude itself beside a zero
-- (`hypot_zero`), is not below either magnitude (`hypot_least`), and not above w where the exact squares say so (`hypot_under`).
use Rattle.std.proofs.Common.{◌≡◌, ℕ, zero, suc, ◌+◌, ◌-◌, ◌*◌, ◌/◌, ◌^◌, ◌<◌, ◌≤◌, Bool, true, false, cond, not, T, ltb, leb, ◌⊎◌, ℤ, sym, refl, ap, ◌∙◌, subst, inl, inr, le_trans, le_of_eq, lt_of_lt_of_le, lt_of_le_of_lt, add-zero, lt_irrefl, mul-le-mul_right, mul_assoc, add-mul, mul-le-mul, eq-or-lt_of_le, mul-le-mul_left, mul-lt-mul_of_pos_right, mul_right_comm, mul-div_cancel, arith, lit<, ltb→lt, leb→le, nltb→le, pow_pos, pow_mono, pow-add, le-ltb}
use mathlib.Core.Bool.{false≢true}
use native.Mathlib.Nat.{pow-succ', pow-le-pow_right}
use lib.Dec.{nleb→lt}
use lib.Ieee.{Float, nan, inf, fin, binary64, up, down, size, odd, units, fits, is_nan, le, lt, eq, of_bits}
use lib.Ieee.Bits.{of_bits-fits}
use lib.Ieee.Digits.{size-lt, size_reaches}
use lib.Ieee.Exact.{HasValue, units_val}
use lib.Ieee.Fits.{down_pos}
use lib.Ieee.Nearest.{div_mono}
use lib.Ieee.Order.{le_of_values}
use lib.Ieee.Scale.{finite}
use Rattle.numbers.specs.Reals.{f0, abs_of}
use Rattle.roots.specs.Hypot.{infinite, NearestEven, even_root, count_of, hypot_of_count, hypot_of, HypotBetween}
use Rattle.numbers.proofs.Counts.{Count, counted, fits_signed, same}
use Rattle.numbers.proofs.Signs.{le→under}
use Rattle.roots.proofs.Units.{four}
use Rattle.roots.proofs.Squares.{square_twice}
use Rattle.roots.proofs.Halves.{mul_lt}
use Rattle.roots.specs.Inside.{place_of, digits_of, infinite_bits}
use Rattle.roots.proofs.Evens.{odd_square, even_mono, even_root_lem, down as lies-down}
use Rattle.roots.proofs.Scales.{Hits, hit, four_pos, square_power, few_digits, all_digits}
use Rattle.roots.proofs.Packing.{packed}
use Rattle.roots.proofs.Sized.{sized, Magnitude, magnitude}

three_ways : (k j : ℕ) → (k < j) ⊎ ((k ≡ j) ⊎ (j < k))
three_ways k j = go (ltb k j) (ltb→lt k j) (nltb→le k j)
  where
    turned : (j ≡ k) ⊎ (j < k) → (k ≡ j) ⊎ (j < k)
    turned (inl e) = inl (sym e)
    turned (inr l) = inr l

    go : (b : Bool) → (T b → k < j) → (T (not b) → j ≤ k) → (k < j) ⊎ ((k ≡ j) ⊎ (j < k))
    go true p q = inl (p tt)
    go false p q = inr (turned (eq-or-lt_of_le (q tt)))

-- ---- counts: the root of n in smallest f64s
own : (n : ℕ) → Hits n ((size n - 105) / 2) (even_root n ((size n - 105) / 2))
own n =
    let k = (size n - 105) / 2 in
    let h : n < 2 ^ 106 * 4 ^ k =
    lt_of_lt_of_le (size-lt n) (le_trans (pow_mono (most (size n))) (le_of_eq (pow-add 2 106 (2 * k) ∙ ap (λ (z : ℕ). 2 ^ 106 * z) (sym (four k))))) in
    record { high = h; low = first k refl; nearest = even_root_lem n k (four_pos k) h }
  where
    most : (s : ℕ) → s ≤ 106 + 2 * ((s - 105) / 2)
    most s = omega arith

    first : (k : ℕ) → (size n - 105) / 2 ≡ k → (k ≡ 0) ⊎ (2 ^ 104 * 4 ^ k ≤ n)
    first zero e = inl refl
    first (suc k) e = inr (le_trans (le_of_eq (ap (λ (z : ℕ). 2 ^ 104 * z) (four (suc k)) ∙ sym (pow-add 2 104 (2 * suc k))))
        (size_reaches n (104 + 2 * suc k) (some (size n) k e)))
      where
        some : (s k : ℕ) → (s - 105) / 2 ≡ suc k → 104 + 2 * suc k < s
        some s k e = omega arith

-- a number of smallest f64s, and of their squares, by places
lower : (n k q n' k' q' : ℕ) → Hits n k q → Hits n' k' q' → n ≤ n' → q * 2 ^ k ≤ q' * 2 ^ k'
lower n k q n' k' q' a b h = go (three_ways k k')
  where
    digits : (k' ≡ 0) ⊎ (2 ^ 52 ≤ q') → k < k' → 2 ^ 52 ≤ q'
    digits (inl e) g = absurd (omega arith)
    digits (inr e) g = e

    large : (k ≡ 0) ⊎ (2 ^ 104 * 4 ^ k ≤ n) → k' < k → ⊥
    large (inl e) g = omega arith
    large (inr e) g =
        lt_irrefl n (lt_of_lt_of_le (lt_of_le_of_lt h b.high)
        (le_trans (le_of_eq (mul_assoc (2 ^ 104) 4 (4 ^ k') ∙ ap (λ (z : ℕ). 2 ^ 104 * z) (sym (pow-succ' 4 k'))))
        (le_trans (mul-le-mul_left (2 ^ 104) (pow-le-pow_right (lit< tt) g)) e)))

    go : (k < k') ⊎ ((k ≡ k') ⊎ (k' < k)) → q * 2 ^ k ≤ q' * 2 ^ k'
    go (inl g) =
        le_trans (mul-le-mul_right (2 ^ k) (few_digits n k q a.high a.nearest))
        (le_trans (le_of_eq (mul_assoc (2 ^ 52) 2 (2 ^ k) ∙ ap (λ (z : ℕ). 2 ^ 52 * z) (sym (pow-succ' 2 k))))
        (mul-le-mul (digits (all_digits n' k' q' b.low b.nearest) g) (pow_mono g)))
    go (inr (inl e)) =
        subst (λ (z : ℕ). q * 2 ^ k ≤ q' * 2 ^ z) e
        (mul-le-mul_right (2 ^ k) (even_mono (4 * n) (4 * n') (4 ^ k) q' q (four_pos k) (mul-le-mul_left 4 h) a.nearest
        (subst (λ (z : ℕ). NearestEven (4 * n') (4 ^ z) q') (sym e) b.nearest)))
    go (inr (inr g)) = absurd (large a.low g)

-- an f64 is finite up to 2 ^ 2098, and infinite from there
infinite_units : (q k : ℕ) → 2 ^ 2098 ≤ q * 2 ^ k → units binary64 false q k ≡ inf false
infinite_units q k h = unfold units in ap (λ (b : Bool). cond b (odd 54 false q k 1074) (inf false)) (le-ltb (q * 2 ^ k) (2 ^ 2098) h)

abbrev Ranged : ℕ → ℕ → Type 0
Ranged q k = ((q * 2 ^ k < 2 ^ 2098) × HasValue (units binary64 false q k) false (q * 2 ^ k) (2 ^ 1074))
    ⊎ ((2 ^ 2098 ≤ q * 2 ^ k) × (units binary64 false q k ≡ inf false))

ranged : (q k : ℕ) → Ranged q k
ranged q k = go (leb (2 ^ 2098) (q * 2 ^ k)) (leb→le (2 ^ 2098) (q * 2 ^ k)) (nleb→lt (2 ^ 2098) (q * 2 ^ k))
  where
    go : (b : Bool) → (T b → 2 ^ 2098 ≤ q * 2 ^ k) → (T (not b) → q * 2 ^ k < 2 ^ 2098) → Ranged q k
    go true f g = inr (f tt, infinite_units q k (f tt))
    go false f g = inl (g tt, units_val binary64 false q k (g tt))

value_le_inf : (x : Float) (a c : ℕ) → HasValue x false a c → T (le x (inf false))
unfolding le lt eq
value_le_inf nan a c p = absurd p
value_le_inf (inf s) a c p = absurd p
value_le_inf (fin s m e) a c p = tt

inf_le_inf : T (le (inf false) (inf false))
unfolding le lt eq
inf_le_inf = tt

pub counts_mono : (n n' : ℕ) → n ≤ n' → T (le (hypot_of_count n) (hypot_of_count n'))
counts_mono n n' h =
    let a = own n in
    let b = own n' in
    subst (λ (z : Float). T (le z (hypot_of_count n'))) (sym (hit a)) (subst (λ (z : Float). T
    (le (units binary64 false (even_root n ((size n - 105) / 2)) ((size n - 105) / 2)) z)) (sym (hit b)) (go _ _ _ _ (lower n _ _ n' _ _ a b h)))
  where
    go : (q k q' k' : ℕ) → q * 2 ^ k ≤ q' * 2 ^ k' → T (le (units binary64 false q k) (units binary64 false q' k'))
    go q k q' k' l = pick (ranged q k) (ranged q' k')
      where
        pick : Ranged q k
            → Ranged q' k' → T (le (units binary64 false q k) (units binary64 false q' k'))
        pick (inl (i, v)) (inl (j, w)) =
            le_of_values _ _ (q * 2 ^ k) (2 ^ 1074) (q' * 2 ^ k') (2 ^ 1074) (pow_pos 1074) (pow_pos 1074) v w (mul-le-mul_right (2 ^ 1074) l)
        pick (inl (i, v)) (inr (j, e)) = subst (λ (z : Float). T (le (units binary64 false q k) z)) (sym e) (value_le_inf _ _ _ v)
        pick (inr (i, e)) (inl (j, w)) = absurd (lt_irrefl (2 ^ 2098) (lt_of_le_of_lt (le_trans i l) j))
        pick (inr (i, e)) (inr (j, f)) =
            subst (λ (z : Float). T (le z (units binary64 false q' k'))) (sym e) (subst (λ (z : Float). T (le (inf false) z)) (sym f) inf_le_inf)

-- ---- the count of an f64
pub count_is : (s : Bool) (m : ℕ) (e : ℤ) → T (fits binary64 (fin s m e)) → Count m e (count_of (fin s m e))
unfolding count_of
count_is s m e t = let c = counted s m e t in subst (Count m e) (sym (ap (λ (z : ℕ). z / down e) c.1 ∙ mul-div_cancel (m * 2 ^ c.0) (down_pos e))) c.1

pub count_le : (s : Bool) (m : ℕ) (e : ℤ) (t : Bool) (n : ℕ) (d : ℤ) → m * up e * down d ≤ n * up d * down e → count_of (fin s m e) ≤ count_of (fin t n d)
unfolding count_of
count_le s m e t n d h =
    div_mono (m * up e * 2 ^ 1074) (down e) (n * up d * 2 ^ 1074) (down d) (down_pos e) (down_pos d)
    (le_trans (le_of_eq (mul_right_comm (m * up e) (2 ^ 1074) (down d)))
    (le_trans (mul-le-mul_right (2 ^ 1074) h) (le_of_eq (mul_right_comm (n * up d) (down e) (2 ^ 1074)))))

pub count_up : (x u : Float) → T (finite u) → T (le (abs_of x) (abs_of u)) → T (finite x) × (count_of x ≤ count_of u)
unfolding abs_of le lt eq
count_up nan u p h = absurd h
count_up (inf s) nan p h = absurd p
count_up (inf s) (inf t) p h = absurd p
count_up (inf s) (fin t n d) p h = absurd h
count_up (fin s m e) nan p h = absurd p
count_up (fin s m e) (inf t) p h = absurd p
count_up (fin s m e) (fin t n d) p h = (tt, count_le s m e t n d (le→under false m e false n d h))

pub hypot_finite : (x y : Float) → T (finite x) → T (finite y) → hypot_of x y ≡ hypot_of_count (count_of x * count_of x + count_of y * count_of y)
unfolding hypot_of infinite is_nan
hypot_finite nan y p q = absurd p
hypot_finite (inf s) y p q = absurd p
hypot_finite (fin s m e) nan p q = absurd q
hypot_finite (fin s m e) (inf t) p q = absurd q
hypot_finite (fin s m e) (fin t n d) p q = refl

sums_up : (a b c d : ℕ) → a ≤ c → b ≤ d → a * a + b * b ≤ c * c + d * d
sums_up a b c d h k = let x = mul-le-mul h h in let y = mul-le-mul k k in omega arith

pub hypot_counts : (x y u v : Float) → T (finite x) → T (finite y) → T (finite u) → T (finite v) → count_of x ≤ count_of u → count_of y ≤ count_of v
    → T (le (hypot_of x y) (hypot_of u v))
hypot_counts x y u v a b p q h k =
    subst (λ (z : Float). T (le z (hypot_of u v))) (sym (hypot_finite x y a b))
    (subst (λ (z : Float). T (le (hypot_of_count (count_of x * count_of x + count_of y * count_of y)) z)) (sym (hypot_finite u v p q))
    (counts_mono _ _ (sums_up (count_of x) (count_of y) (count_of u) (count_of v) h k)))

-- of finite u and v; x and y are then finite too
pub hypot_mono : (x y u v : Float) → T (finite u) → T (finite v) → T (le (abs_of x) (abs_of u)) → T (le (abs_of y) (abs_of v)) → T (le (hypot_of x y) (hypot_of u v))
hypot_mono x y u v p q h k = let i = count_up x u p h in let j = count_up y v q k in hypot_counts x y u v i.0 j.0 p q i.1 j.1

-- a finite one's count is below 2 ^ 2098
count_lt : (x : Float) → T (fits binary64 x) → T (finite x) → count_of x < 2 ^ 2098
unfolding count_of
count_lt nan f p = absurd p
count_lt (inf s) f p = absurd p
count_lt (fin s m e) f p = let c = counted s m e f in
    subst (λ (z : ℕ). z < 2 ^ 2098) (sym (ap (λ (z : ℕ). z / down e) c.1 ∙ mul-div_cancel (m * 2 ^ c.0) (down_pos e))) c.2

-- ---- the root of a square
pub exactly : (d p : ℕ) → d < 2 ^ 53 → (p ≡ 0) ⊎ (2 ^ 52 ≤ d) → Hits (d * 2 ^ p * (d * 2 ^ p)) p d
exactly d p h l =
    let c = 4 ^ p in
    let e : d * 2 ^ p * (d * 2 ^ p) ≡ d * d * c = square_power d p in
    subst (λ (z : ℕ). Hits z p d) (sym e)
    (record {
      high = mul-lt-mul_of_pos_right (mul_lt (2 ^ 53) (2 ^ 53) (lit< tt) h h) (four_pos p);
      low = first l;
      nearest = near d c (four_pos p);
    })
  where
    first : (p ≡ 0) ⊎ (2 ^ 52 ≤ d) → (p ≡ 0) ⊎ (2 ^ 104 * 4 ^ p ≤ d * d * 4 ^ p)
    first (inl e) = inl e
    first (inr e) = inr (mul-le-mul_right (4 ^ p) (mul-le-mul e e))

    near : (d c : ℕ) → 0 < c → NearestEven (4 * (d * d * c)) c d
    near d c C =
        let x : 2 * d * (2 * d) * c ≡ 4 * (d * d * c) = ap (λ (z : ℕ). z * c) (square_twice d) ∙ mul_assoc 4 (d * d) c in
        let y : (2 * d + 1) * (2 * d + 1) * c ≡ (4 * (d * d) + 4 * d) * c + 1 * c = ap (λ (z : ℕ). z * c) (odd_square d) ∙ add-mul (4 * (d * d) + 4 * d) 1 c in
        let z : (4 * (d * d) + 4 * d) * c ≡ 4 * (d * d) * c + 4 * d * c = add-mul (4 * (d * d)) (4 * d) c in
        let w : 4 * (d * d) * c ≡ 4 * (d * d * c) = mul_assoc 4 (d * d) c in
        let u : 2 * d + 1 ≤ 2 * (d + 1) = omega arith in
        let v : (2 * d + 1) * (2 * d + 1) * c ≤ 2 * (d + 1) * (2 * (d + 1)) * c = mul-le-mul_right c (mul-le-mul u u) in
        lies-down (4 * (d * d * c)) c d C (omega arith) (omega arith) (omega arith) (λ e. absurd (omega arith))

-- two f64s of one sign and one count are one
one_value : (x y : Float) (a : ℕ) → T (fits binary64 x) → T (fits binary64 y) → HasValue x false a (2 ^ 1074) → HasValue y false a (2 ^ 1074) → x ≡ y
one_value nan y a f g h k = absurd h
one_value (inf s) y a f g h k = absurd h
one_value (fin s m e) nan a f g h k = absurd k
one_value (fin s m e) (inf t) a f g h k = absurd k
one_value (fin s m e) (fin t n d) a f g h k =
    ap (λ (b : Bool). fin b m e) h.0 ∙ same false m e n d a h.1 k.1 (fits_signed s false m e f) (fits_signed t false n d g)
    ∙ ap (λ (b : Bool). fin b n d) (sym k.0)

magnitude_value : (x : Float) → T (fits binary64 x) → T (finite x) → HasValue (abs_of x) false (count_of x) (2 ^ 1074)
magnitude_value nan f p = absurd p
magnitude_value (inf s) f p = absurd p
magnitude_value (fin s m e) f p = unfold abs_of in (refl, count_is s m e f)

abs_fits : (x : Float) → T (fits binary64 x) → T (fits binary64 (abs_of x))
unfolding abs_of
abs_fits nan f = f
abs_fits (inf s) f = unfold fits in tt
abs_fits (fin s m e) f = fits_signed s false m e f

not_infinite : (x : Float) → T (finite x) → infinite x ≡ true → ⊥
unfolding infinite
not_infinite nan p e = absurd p
not_infinite (inf s) p e = absurd p
not_infinite (fin s m d) p e = false≢true e

number : (x : Float) → T (finite x) → T (not (is_nan x))
unfolding is_nan
number nan p = absurd p
number (inf s) p = absurd p
number (fin s m e) p = tt

root_of_square : (x : Float) → T (fits binary64 x) → T (finite x) → hypot_of_count (count_of x * count_of x) ≡ abs_of x
root_of_square x f p = go (magnitude x f (number x p))
  where
    go : {a : ℕ} → Magnitude x a → hypot_of_count (count_of x * count_of x) ≡ abs_of x
    go (inl (e, q)) = absurd (not_infinite x p e)
    go {a} (inr w) =
        let A = sized a w.below in
        let d = digits_of a in
        let k = place_of a in
        let t = (packed d k (weak d A.few) A.enough (subst (λ (z : ℕ). z < infinite_bits) (sym A.whole) w.below)).0 in
        let h = exactly d k A.few A.enough in
        ap (λ (z : ℕ). hypot_of_count (z * z)) w.count
        ∙ hit h
        ∙ one_value _ _ (count_of x) (subst (λ (z : Float). T (fits binary64 z)) t (of_bits-fits binary64 (k * 2 ^ 52 + d))) (abs_fits x f)
        (value (ranged d k) w.count) (magnitude_value x f p)
      where
        weak : (q : ℕ) → q < 2 ^ 53 → q ≤ 2 ^ 53
        weak q h = omega arith

        value : Ranged (digits_of a) (place_of a)
            → count_of x ≡ digits_of a * 2 ^ place_of a → HasValue (units binary64 false (digits_of a) (place_of a)) false (count_of x) (2 ^ 1074)
        value (inl (i, v)) e = subst (λ (z : ℕ). HasValue (units binary64 false (digits_of a) (place_of a)) false z (2 ^ 1074)) (sym e) v
        value (inr (i, v)) e = absurd (lt_irrefl (2 ^ 2098) (lt_of_le_of_lt i (subst (λ (z : ℕ). z < 2 ^ 2098) e (count_lt x f p))))

-- ---- beside a zero, and against either magnitude
zero_count : count_of f0 ≡ 0
unfolding count_of of_bits
zero_count = refl

pub hypot_zero : (x : Float) → T (fits binary64 x) → hypot_of x f0 ≡ abs_of x
hypot_zero nan f = unfold hypot_of infinite is_nan abs_of of_bits in refl
hypot_zero (inf s) f = unfold hypot_of infinite abs_of of_bits in refl
hypot_zero (fin s m e) f =
    let x = fin s m e in
    hypot_finite x f0 tt (unfold of_bits in tt)
    ∙ ap (λ (z : ℕ). hypot_of_count (count_of x * count_of x + z * z)) zero_count
    ∙ ap hypot_of_count (add-zero (count_of x * count_of x))
    ∙ root_of_square x f tt

pub hypot_least : (x y : Float) → T (fits binary64 x) → T (fits binary64 y) → T (finite x) → T (finite y)
    → T (le (abs_of x) (hypot_of x y)) × T (le (abs_of y) (hypot_of x y))
hypot_least x y f g p q =
    let e = hypot_finite x y p q in (
      subst (λ (z : Float). T (le (abs_of x) z)) (sym e) (subst (λ (z : Float). T (le z (hypot_of_count (count_of x * count_of x + count_of y * count_of y))))
          (root_of_square x f p) (counts_mono _ _ (front _ _))),
      subst (λ (z : Float). T (le (abs_of y) z)) (sym e) (subst (λ (z : Float). T (le z (hypot_of_count (count_of x * count_of x + count_of y * count_of y))))
          (root_of_square y g q) (counts_mono _ _ (back _ _))),
    )
  where
    front : (a b : ℕ) → a ≤ a + b
    front a b = omega arith

    back : (a b : ℕ) → b ≤ a + b
    back a b = omega arith

-- where the exact squares say so
pub hypot_under : (x y w : Float) → T (fits binary64 w) → T (finite x) → T (finite y) → T (finite w)
    → count_of x * count_of x + count_of y * count_of y ≤ count_of w * count_of w → T (le (hypot_of x y) (abs_of w))
hypot_under x y w f p q r h =
    subst (λ (z : Float). T (le z (abs_of w))) (sym (hypot_finite x y p q))
    (subst (λ (z : Float). T (le (hypot_of_count (count_of x * count_of x + count_of y * count_of y)) z)) (root_of_square w f r) (counts_mono _ _ h))

-- ---- the theorem
pub hypot_between : (x y : Float) → T (fits binary64 x) → T (fits binary64 y) → T (finite x) → T (finite y) → HypotBetween x y (hypot_of x y)
hypot_between x y f g p q =
    let n = count_of x * count_of x + count_of y * count_of y in
    let k = (size n - 105) / 2 in
    let a = own n in
    let e : hypot_of x y ≡ units binary64 false (even_root n k) k = hypot_finite x y p q ∙ hit a in
    record {
      p = count_of x;
      r = count_of y;
      q = even_root n k;
      k = k;
      first = magnitude_value x f p;
      second = magnitude_value y g q;
      nearest = a.nearest;
      digits = all_digits n k (even_root n k) a.low a.nearest;
      few = few_digits n k (even_root n k) a.high a.nearest;
      least = a.low;
      value = λ h. subst (λ (z : Float). HasValue z false (even_root n k * 2 ^ k) (2 ^ 1074)) (sym e) (units_val binary64 false (even_root n k) k h);
      beyond = λ h. e ∙ infinite_units (even_root n k) k h;
    }
