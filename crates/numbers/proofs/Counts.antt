-- A finite f64 is a whole number of smallest ones, 2 ^ -1074: its count. Two that have the same sign and the same count are one; of two sizes the smaller has
-- the smaller count.
use Rattle.std.proofs.Common.{◌≡◌, ℕ, zero, suc, ◌+◌, ◌-◌, ◌*◌, ◌/◌, ◌%◌, ◌^◌, ◌<◌, ◌≤◌, Bool, true, false, cond, ◌&&◌, T, eqb, ltb, leb, ℤ, pos, negsuc, sym, refl, ap, ◌∙◌, subst, le_trans, le_of_eq, lt_of_lt_of_le, lt_of_le_of_lt, lt_irrefl, mul-le-mul_right, mul_assoc, mul-pos, lt_of_not-le, zero-mul, mul-one, mul_right_comm, not-le_of_lt, le_of_mul-le-mul_right, mul-div_cancel, arith, lit<, ltb→lt, leb→le, pow_pos, pow_mono, pow-add, shl_lt, ltb-false, ltb-true, le-ltb, lt-ltb}
use native.Mathlib.Nat.{eq_of_mul-eq-mul_right}
use lib.Pow.{pow-lt}
use lib.Ieee.{Float, nan, inf, fin, binary64, emax, low, up, down, top, hid, size, round, fits, to_bits, of_bits}
use lib.Ieee.Bits.{of_bits-to_bits}
use lib.Ieee.Fits.{and_l, and_r, down_pos, round-fits}
use lib.Ieee.Exact.{HasValue, round_exact}

-- a is the count of m * 2 ^ e
abbrev pub Count : ℕ → ℤ → ℕ → Type 0
Count m e a = m * up e * 2 ^ 1074 ≡ a * down e

-- ---- what fits
module _ (s : Bool) (m : ℕ) (e : ℤ) (t : T (fits binary64 (fin s (suc m) e))) where
  significand_lt : suc m < 2 ^ 53
  unfolding fits
  significand_lt =
      let a = eqb (suc m % 2) 1 in
      let b = ltb (suc m) (2 ^ 53) in
      let c = leb (down e) (2 ^ low binary64) in
      ltb→lt (suc m) (2 ^ 53) (and_r a b (and_l (a && b) c (and_l (a && b && c) (ltb (suc m * up e) (2 ^ suc (emax binary64) * down e)) t)))

  down_most : down e ≤ 2 ^ 1074
  unfolding fits
  down_most =
      let a = eqb (suc m % 2) 1 in
      let b = ltb (suc m) (2 ^ 53) in
      let c = leb (down e) (2 ^ low binary64) in
      leb→le (down e) (2 ^ 1074) (and_r (a && b) c (and_l (a && b && c) (ltb (suc m * up e) (2 ^ suc (emax binary64) * down e)) t))

  size-lt : suc m * up e < 2 ^ 1024 * down e
  unfolding fits
  size-lt =
      let a = eqb (suc m % 2) 1 in
      let b = ltb (suc m) (2 ^ 53) in
      let c = leb (down e) (2 ^ low binary64) in
      let d = ltb (suc m * up e) (2 ^ suc (emax binary64) * down e) in
      ltb→lt (suc m * up e) (2 ^ 1024 * down e) (and_r (a && b && c) d t)

pub small : (s : Bool) (m : ℕ) (e : ℤ) → T (fits binary64 (fin s m e)) → m < 2 ^ 53
small s zero e t = lit< tt
small s (suc m) e t = significand_lt s m e t

pub fits_signed : (s t : Bool) (m : ℕ) (e : ℤ) → T (fits binary64 (fin s m e)) → T (fits binary64 (fin t m e))
unfolding fits
fits_signed s t zero e h = h
fits_signed s t (suc m) e h = h

-- ---- the count of m * 2 ^ e: m times a power of two
few : (k : ℕ) → 2 ^ suc k ≤ 2 ^ 1074 → suc k ≤ 1074
few k h = go (λ (g : 1074 < suc k). lt_irrefl (2 ^ 1074) (lt_of_lt_of_le (pow-lt g) h))
  where
    go : (1074 < suc k → ⊥) → suc k ≤ 1074
    go n = omega arith

pub counted : (s : Bool) (m : ℕ) (e : ℤ) → T (fits binary64 (fin s m e)) → (j : ℕ) × Count m e (m * 2 ^ j) × (m * 2 ^ j < 2 ^ 2098)
counted s m (pos k) t =
    let p : m * 2 ^ k * 2 ^ 1074 ≡ m * 2 ^ (k + 1074) = mul_assoc m (2 ^ k) (2 ^ 1074) ∙ ap (λ (n : ℕ). m * n) (sym (pow-add 2 k 1074)) in
    (k + 1074, p ∙ sym (mul-one (m * 2 ^ (k + 1074))), subst (λ (n : ℕ). n < 2 ^ 2098) p (shl_lt 1024 1074 (size m t)))
  where
    size : (m : ℕ) → T (fits binary64 (fin s m (pos k))) → m * 2 ^ k < 2 ^ 1024
    size zero t = lt_of_le_of_lt (le_of_eq (zero-mul (2 ^ k))) (pow_pos 1024)
    size (suc m) t = lt_of_lt_of_le (size-lt s m (pos k) t) (le_of_eq (mul-one (2 ^ 1024)))
counted s zero (negsuc k) t = (0, ap (λ (n : ℕ). n * 2 ^ 1074) (zero-mul 1) ∙ zero-mul (2 ^ 1074) ∙ sym (zero-mul (2 ^ suc k)), pow_pos 2098)
counted s (suc m) (negsuc k) t =
    let j = 1074 - suc k in (
      j,
      ap (λ (n : ℕ). n * 2 ^ 1074) (mul-one (suc m))
          ∙ ap (λ (n : ℕ). suc m * n) (ap (λ (n : ℕ). 2 ^ n) (sum k (few k (down_most s m (negsuc k) t))) ∙ pow-add 2 j (suc k))
          ∙ sym (mul_assoc (suc m) (2 ^ j) (2 ^ suc k)),
      lt_of_lt_of_le (shl_lt 53 j (significand_lt s m (negsuc k) t)) (pow_mono (fit k)),
    )
  where
    sum : (k : ℕ) → suc k ≤ 1074 → 1074 ≡ 1074 - suc k + suc k
    sum k h = omega arith

    fit : (k : ℕ) → 53 + (1074 - suc k) ≤ 2098
    fit k = omega arith

-- ---- the order of sizes is that of counts
module _ (m : ℕ) (e : ℤ) (n : ℕ) (d : ℤ) (a b : ℕ) (p : Count m e a) (q : Count n d b) where
  left_side : m * up e * down d * 2 ^ 1074 ≡ a * (down e * down d)
  left_side = mul_right_comm (m * up e) (down d) (2 ^ 1074) ∙ ap (λ (k : ℕ). k * down d) p ∙ mul_assoc a (down e) (down d)

  right_side : n * up d * down e * 2 ^ 1074 ≡ b * (down e * down d)
  right_side = mul_right_comm (n * up d) (down e) (2 ^ 1074) ∙ ap (λ (k : ℕ). k * down e) q ∙ mul_right_comm b (down d) (down e) ∙ mul_assoc b (down e) (down d)

  pub sizes_le : a ≤ b → m * up e * down d ≤ n * up d * down e
  sizes_le h = le_of_mul-le-mul_right
      (le_trans (le_of_eq left_side) (le_trans (mul-le-mul_right (down e * down d) h) (le_of_eq (sym right_side)))) (pow_pos 1074)

  pub counts_le : m * up e * down d ≤ n * up d * down e → a ≤ b
  counts_le h = le_of_mul-le-mul_right (le_trans (le_of_eq (sym left_side)) (le_trans (mul-le-mul_right (2 ^ 1074) h) (le_of_eq right_side)))
      (mul-pos (down_pos e) (down_pos d))

pub sizes_ltb : (m : ℕ) (e : ℤ) (n : ℕ) (d : ℤ) (a b : ℕ) → Count m e a → Count n d b → ltb (m * up e * down d) (n * up d * down e) ≡ ltb a b
sizes_ltb m e n d a b p q = go (ltb a b) refl
  where
    go : (t : Bool) → ltb a b ≡ t → ltb (m * up e * down d) (n * up d * down e) ≡ t
    go true h = lt-ltb _ _ (lt_of_not-le (λ g. not-le_of_lt (ltb-true a b h) (counts_le n d m e b a q p g)))
    go false h = le-ltb _ _ (sizes_le n d m e b a q p (ltb-false a b h))

-- ---- a sign and a count make one f64
bits_of : (s : Bool) (m : ℕ) (e : ℤ) (a : ℕ) → Count m e a
    → to_bits binary64 (fin s m e) ≡ cond s (top binary64) 0 + (size a - 53) * hid binary64 + a / 2 ^ (size a - 53)
unfolding to_bits
bits_of s m e a p = ap (λ (n : ℕ). cond s (top binary64) 0 + (size n - 53) * hid binary64 + n / 2 ^ (size n - 53)) (ap (λ (n : ℕ). n / down e) p
    ∙ mul-div_cancel a (down_pos e))

pub same : (s : Bool) (m : ℕ) (e : ℤ) (n : ℕ) (d : ℤ) (a : ℕ) → Count m e a → Count n d a → T (fits binary64 (fin s m e))
    → T (fits binary64 (fin s n d)) → fin s m e ≡ fin s n d
same s m e n d a p q x y = sym (of_bits-to_bits binary64 (fin s m e) x) ∙ ap (of_bits binary64) (bits_of s m e a p ∙ sym (bits_of s n d a q))
    ∙ of_bits-to_bits binary64 (fin s n d) y

-- ---- a value that fits is its own rounding
pub exact_value : (s : Bool) (m : ℕ) (e : ℤ) → T (fits binary64 (fin s m e)) → HasValue (round binary64 s (m * up e) (down e)) s (m * up e) (down e)
exact_value s m e t = let c = counted s m e t in round_exact binary64 s (m * up e) (down e) m c.0 (down_pos e) (small s m e t) c.2 c.1

of_value : (x : Float) (s : Bool) (m : ℕ) (e : ℤ) → T (fits binary64 x) → T (fits binary64 (fin s m e)) → HasValue x s (m * up e) (down e) → x ≡ fin s m e
of_value nan s m e p q h = absurd h
of_value (inf t) s m e p q h = absurd h
of_value (fin t n d) s m e p q h =
    let c = counted s m e q in
    let a = m * 2 ^ c.0 in
    let k : Count n d a =
    eq_of_mul-eq-mul_right (down e) (down_pos e) (n * up d * 2 ^ 1074) (a * down d)
    (mul_right_comm (n * up d) (2 ^ 1074) (down e) ∙ ap (λ (i : ℕ). i * 2 ^ 1074) h.1 ∙ mul_right_comm (m * up e) (down d) (2 ^ 1074)
    ∙ ap (λ (i : ℕ). i * down d) c.1 ∙ mul_right_comm a (down e) (down d)) in
    ap (λ (b : Bool). fin b n d) h.0 ∙ same s n d m e a k c.1 (fits_signed t s n d p) q

pub round_self : (s : Bool) (m : ℕ) (e : ℤ) → T (fits binary64 (fin s m e)) → round binary64 s (m * up e) (down e) ≡ fin s m e
round_self s m e t = of_value (round binary64 s (m * up e) (down e)) s m e (round-fits binary64 s (m * up e) (down e)) t (exact_value s m e t)
