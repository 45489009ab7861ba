-- What the bits of magnitudes tell: their places and digits, their counts, and so what `hypot_of` is of two of them.
use Rattle.std.proofs.Common.{◌≡◌, ℕ, zero, suc, ◌+◌, ◌-◌, ◌*◌, ◌/◌, ◌%◌, ◌^◌, ◌<◌, ◌≤◌, min, max, Bool, true, false, cond, not, ◌||◌, T, eqb, leb, ◌⊎◌, sym, refl, ap, ◌∙◌, subst, inl, inr, le_of_suc-le-suc, add_comm, eq-or-lt_of_le, arith, le→leb, leb→le, eqb-true}
use lib.Dec.{nleb→lt, not_T}
use lib.Bits.{bit_and, and_mask}
use lib.Ieee.{Float, nan, inf, fin, binary64, of_fields, of_bits, nan_bits, fits, to_bits, is_nan}
use lib.Ieee.Bits.{is_true, is_false}
use lib.Ieee.Exact.{HasValue}
use Rattle.numbers.proofs.Patterns.{apart, exponent_of, fraction_of, exponent_lt, fraction_lt, special}
use Rattle.roots.specs.Hypot.{infinite, count_of, hypot_of_count, hypot_of}
use Rattle.roots.specs.Inside.{place_of, digits_of, infinite_bits, of_sizes}
use Rattle.roots.proofs.Packing.{packed, beyond, count_of_value, bits_value}
use Rattle.roots.proofs.Scales.{Hits, hit, far, few_digits, all_digits}

pub record Sized (a : ℕ) : Type 0 where
  pub few : digits_of a < 2 ^ 53
  pub enough : (place_of a ≡ 0) ⊎ (2 ^ 52 ≤ digits_of a)
  pub place : place_of a ≤ 2045
  pub whole : place_of a * 2 ^ 52 + digits_of a ≡ a

pub sized : (a : ℕ) → a < infinite_bits → Sized a
sized a h = record { few = omega arith; enough = go (a / 2 ^ 52) refl; place = omega arith; whole = omega arith }
  where
    go : (e : ℕ) → a / 2 ^ 52 ≡ e → (place_of a ≡ 0) ⊎ (2 ^ 52 ≤ digits_of a)
    go zero e = inl (omega arith)
    go (suc e) f = inr (omega arith)

-- ---- `of_sizes`
pub sizes_infinite : (a b : ℕ) → infinite_bits ≤ a → inf false ≡ of_sizes a b
unfolding of_sizes
sizes_infinite a b h =
    sym (ap (λ (t : Bool). cond t (inf false) (hypot_of_count (digits_of a * 2 ^ place_of a * (digits_of a * 2 ^ place_of a) + digits_of b * 2 ^ place_of b
    * (digits_of b * 2 ^ place_of b)))) (is_true (leb infinite_bits a) (le→leb infinite_bits a h)))

pub sizes_finite : (a b : ℕ) → a < infinite_bits
    → hypot_of_count (digits_of a * 2 ^ place_of a * (digits_of a * 2 ^ place_of a) + digits_of b * 2 ^ place_of b * (digits_of b * 2 ^ place_of b)) ≡ of_sizes a b
unfolding of_sizes
sizes_finite a b h =
    sym (ap (λ (t : Bool). cond t (inf false) (hypot_of_count (digits_of a * 2 ^ place_of a * (digits_of a * 2 ^ place_of a) + digits_of b * 2 ^ place_of b
    * (digits_of b * 2 ^ place_of b)))) (is_false (leb infinite_bits a) (not_T (leb infinite_bits a) (λ t. no a h (leb→le infinite_bits a t)))))
  where
    no : (a : ℕ) → a < infinite_bits → infinite_bits ≤ a → ⊥
    no a h l = omega arith

-- ---- a result put together
module _ (n k q : ℕ) (h : Hits n k q) (K : k ≤ 2046) where
  exact : k * 2 ^ 52 % 2 ^ 64 ≡ k * 2 ^ 52
  exact = omega arith

  few : q ≤ 2 ^ 53
  few = few_digits n k q h.high h.nearest

  pub result_is : k * 2 ^ 52 % 2 ^ 64 + q < infinite_bits → (of_bits binary64 (k * 2 ^ 52 % 2 ^ 64 + q) ≡ hypot_of_count n)
      × T (not (nan_bits binary64 (k * 2 ^ 52 % 2 ^ 64 + q)))
  result_is l =
      subst (λ (z : ℕ). (of_bits binary64 (z + q) ≡ hypot_of_count n) × T (not (nan_bits binary64 (z + q)))) (sym exact)
      (let p = packed q k few (all_digits n k q h.low h.nearest) (subst (λ (z : ℕ). z + q < infinite_bits) exact l) in (p.0 ∙ sym (hit h), p.1))

  pub result_beyond : infinite_bits ≤ k * 2 ^ 52 % 2 ^ 64 + q → inf false ≡ hypot_of_count n
  result_beyond l = sym (hit h ∙ beyond q k few (all_digits n k q h.low h.nearest) (subst (λ (z : ℕ). infinite_bits ≤ z + q) exact l))

-- a stands alone
pub alone : (a b : ℕ) → b ≤ a → a < infinite_bits → place_of b + 27 ≤ place_of a → (of_bits binary64 a ≡ of_sizes a b) × T (not (nan_bits binary64 a))
alone a b l h f =
    let A = sized a h in
    let B = sized b (below a b l h) in
    let w = A.whole in
    let d : 2 ^ 52 ≤ digits_of a = some A.enough in
    let k = packed (digits_of a) (place_of a) (weak _ A.few) A.enough (subst (λ (z : ℕ). z < infinite_bits) (sym w) h) in (
      ap (of_bits binary64) (sym w) ∙ k.0 ∙ sym (hit (far (digits_of a) (digits_of b) (place_of a) (place_of b) d A.few B.few f)) ∙ sizes_finite a b h,
      subst (λ (z : ℕ). T (not (nan_bits binary64 z))) w k.1,
    )
  where
    below : (a b : ℕ) → b ≤ a → a < infinite_bits → b < infinite_bits
    below a b l h = omega arith

    weak : (q : ℕ) → q < 2 ^ 53 → q ≤ 2 ^ 53
    weak q h = omega arith

    some : (place_of a ≡ 0) ⊎ (2 ^ 52 ≤ digits_of a) → 2 ^ 52 ≤ digits_of a
    some (inl e) = absurd (omega arith)
    some (inr e) = e

-- ---- two f64s by the bits of their magnitudes
pub record Finite (x : Float) (a : ℕ) : Type 0 where
  pub finite : infinite x ≡ false
  pub number : is_nan x ≡ false
  pub below : a < infinite_bits
  pub count : count_of x ≡ digits_of a * 2 ^ place_of a

abbrev pub Magnitude : Float → ℕ → Type 0
Magnitude x a = ((infinite x ≡ true) × (a ≡ infinite_bits)) ⊎ Finite x a

of_value : (x : Float) (s : Bool) (a c : ℕ) → HasValue x s a c → (infinite x ≡ false) × (is_nan x ≡ false)
unfolding infinite is_nan
of_value nan s a c h = absurd h
of_value (inf t) s a c h = absurd h
of_value (fin t m e) s a c h = (refl, refl)

by_special : (s b : Bool) → T (not (is_nan (cond b (inf s) nan))) → (infinite (cond b (inf s) nan) ≡ true) × (b ≡ true)
unfolding infinite is_nan
by_special s true n = (refl, refl)
by_special s false n = absurd n

pub magnitude : (x : Float) → T (fits binary64 x) → T (not (is_nan x)) → Magnitude x (bit_and (to_bits binary64 x) (2 ^ 63 - 1))
magnitude x h n =
    let b = to_bits binary64 x in
    let s = leb (2 ^ 63) b in
    let e = apart x s h refl in
    subst (λ (z : Float). Magnitude z (bit_and b (2 ^ 63 - 1))) (sym e)
    (go s (exponent_of b) (fraction_of b) (bit_and b (2 ^ 63 - 1)) (eq-or-lt_of_le (le_of_suc-le-suc (exponent_lt b))) (fraction_lt b)
    (parts b _ _ _ (and_mask b 63) (and_mask (b / 2 ^ 52) 11) (and_mask b 52)) (subst (λ (z : Float). T (not (is_nan z))) e n))
  where
    parts : (b a e f : ℕ) → a ≡ b % 2 ^ 63 → e ≡ b / 2 ^ 52 % 2 ^ 11 → f ≡ b % 2 ^ 52 → a ≡ e * 2 ^ 52 + f
    parts b a e f p q r = omega arith

    go : (s : Bool) (e f a : ℕ) → (e ≡ 2047) ⊎ (e < 2047) → f < 2 ^ 52 → a ≡ e * 2 ^ 52 + f → T (not (is_nan (of_fields binary64 s e f)))
        → Magnitude (of_fields binary64 s e f) a
    go s e f a (inl q) F p n =
        let g : of_fields binary64 s e f ≡ cond (eqb f 0) (inf s) nan = ap (λ (z : ℕ). of_fields binary64 s z f) q ∙ special s f in
        let k = by_special s (eqb f 0) (subst (λ (z : Float). T (not (is_nan z))) g n) in
        inl (ap infinite g ∙ k.0, whole a e f p q (eqb-true f 0 k.1))
      where
        whole : (a e f : ℕ) → a ≡ e * 2 ^ 52 + f → e ≡ 2047 → f ≡ 0 → a ≡ infinite_bits
        whole a e f p q r = omega arith
    go s e f a (inr q) F p n =
        let v = bits_value s e f a q F p in
        let k = of_value _ s _ _ v in
        inr (record { finite = k.0; number = k.1; below = low a e f p q F; count = count_of_value _ s _ v })
      where
        low : (a e f : ℕ) → a ≡ e * 2 ^ 52 + f → e < 2047 → f < 2 ^ 52 → a < infinite_bits
        low a e f p q r = omega arith

-- hypot of two that are no NaNs
module _ (x y : Float) (a b : ℕ) where
  hypot_of_infinite : (i j : Bool) → infinite x ≡ i → infinite y ≡ j → (i || j) ≡ true → hypot_of x y ≡ inf false
  unfolding hypot_of
  hypot_of_infinite i j e f h = rw (e, f, h)

  hypot_of_finite : infinite x ≡ false → infinite y ≡ false → is_nan x ≡ false → is_nan y ≡ false
      → hypot_of x y ≡ hypot_of_count (count_of x * count_of x + count_of y * count_of y)
  unfolding hypot_of
  hypot_of_finite e f g h = rw (e, f, g, h)

  pub sizes : Magnitude x a → Magnitude y b → hypot_of x y ≡ of_sizes (max a b) (min a b)
  sizes (inl (e, p)) k = hypot_of_infinite true (infinite y) e refl refl ∙ sizes_infinite (max a b) (min a b) (omega arith)
  sizes (inr h) (inl (f, q)) = hypot_of_infinite false true h.finite f refl ∙ sizes_infinite (max a b) (min a b) (omega arith)
  sizes (inr h) (inr k) =
      hypot_of_finite h.finite k.finite h.number k.number
      ∙ ap (λ (z : ℕ). hypot_of_count (z * z + count_of y * count_of y)) h.count
      ∙ ap (λ (z : ℕ). hypot_of_count (digits_of a * 2 ^ place_of a * (digits_of a * 2 ^ place_of a) + z * z)) k.count
      ∙ ordered (leb b a) (leb→le b a) (nleb→lt b a)
    where
      ordered : (t : Bool) → (T t → b ≤ a) → (T (not t) → a < b)
          → hypot_of_count (digits_of a * 2 ^ place_of a * (digits_of a * 2 ^ place_of a) + digits_of b * 2 ^ place_of b * (digits_of b * 2 ^ place_of b))
          ≡ of_sizes (max a b) (min a b)
      ordered true f g = let l = f tt in sizes_finite a b h.below ∙ ap (λ (z : ℕ). of_sizes z b) (higher a b l)
          ∙ ap (λ (z : ℕ). of_sizes (max a b) z) (lower a b l)
        where
          higher : (a b : ℕ) → b ≤ a → a ≡ max a b
          higher a b l = omega arith

          lower : (a b : ℕ) → b ≤ a → b ≡ min a b
          lower a b l = omega arith
      ordered false f g = let l = g tt in
          ap hypot_of_count (add_comm _ _) ∙ sizes_finite b a k.below ∙ ap (λ (z : ℕ). of_sizes z a) (higher a b l)
          ∙ ap (λ (z : ℕ). of_sizes (max a b) z) (lower a b l)
        where
          higher : (a b : ℕ) → a < b → b ≡ max a b
          higher a b l = omega arith

          lower : (a b : ℕ) → a < b → a ≡ min a b
          lower a b l = omega arith

  pub most : Magnitude x a → a ≤ infinite_bits
  most (inl (e, p)) = omega arith
  most (inr h) = let l = h.below in omega arith

-- one is a NaN
pub hypot_nan : (x y r : Float) → (is_nan x || is_nan y) ≡ true → r ≡ cond (infinite x || infinite y) (inf false) nan → r ≡ hypot_of x y
unfolding hypot_of
hypot_nan x y r e h = h ∙ ap
    (λ (t : Bool). cond (infinite x || infinite y) (inf false) (cond t nan (hypot_of_count (count_of x * count_of x + count_of y * count_of y)))) (sym e)
