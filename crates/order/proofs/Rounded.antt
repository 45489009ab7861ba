-- How far rounding goes: a / c rounded, counted in smallest f64s (`grid`), lies within a part in 2 ^ 52 of a / c, or within one smallest f64.
use mathlib.Core.Path.{◌≡◌, sym, ap, ◌∙◌}
use mathlib.Core.Bool.{Bool, true, false, not}
use mathlib.Core.Logic.{◌⊎◌, inl, inr}
use Prim.Native.Nat.{ℕ, suc, ◌+◌, ◌-◌, ◌*◌, ◌/◌, ◌%◌, ◌^◌, ◌≤◌, ◌<◌, compare}
use native.Mathlib.Nat.{mul_assoc, mul_comm, one-mul, add-mul, mul-pos, mul-le-mul_right, le_trans}
use native.Mathlib.Nat.{le_of_eq, div-mul-le_self, lt-div-mul-add, le-div_iff_mul-le}
use native.Mathlib.Omega.{arith}
use lib.Dec.{T, leb, leb→le, nleb→lt}
use lib.Pow.{pow-add, pow_pos}
use lib.Ieee.{binary64, size}
use lib.Ieee.Digits.{size_reaches}
use lib.Ieee.Fits.{nearest-le}
use lib.Ieee.Nearest.{nearest-ge}
use lib.Ieee.Scale.{grid}

module _ (a c : ℕ) (C : 0 < c) where
  abbrev n : ℕ
  n = a * 2 ^ 1074

  abbrev k : ℕ
  k = size (n / c) - 53

  abbrev q : ℕ
  q = n / (c * 2 ^ k)

  abbrev G : ℕ
  G = grid binary64 a c

  -- one unit of the last digit
  abbrev u : ℕ
  u = 2 ^ k * c

  unit : (u ≡ c) ⊎ (2 ^ 52 * u ≤ n)
  unit = go (leb (size (n / c)) 53) (leb→le (size (n / c)) 53) (nleb→lt (size (n / c)) 53)
    where
      none : (s : ℕ) → s ≤ 53 → s - 53 ≡ 0
      none s h = omega arith

      some : (s : ℕ) → 53 < s → 52 + (s - 53) < s
      some s h = omega arith

      go : (b : Bool) → (T b → size (n / c) ≤ 53) → (T (not b) → 53 < size (n / c)) → (u ≡ c) ⊎ (2 ^ 52 * u ≤ n)
      go true f g = inl (ap (λ (z : ℕ). 2 ^ z * c) (none (size (n / c)) (f tt)) ∙ one-mul c)
      go false f g =
          inr (le_trans (le_of_eq (sym (mul_assoc (2 ^ 52) (2 ^ k) c) ∙ ap (λ (z : ℕ). z * c) (sym (pow-add 2 52 k))))
          ((le-div_iff_mul-le C).0 (size_reaches (n / c) (52 + k) (some (size (n / c)) (g tt)))))

  whole : q * (c * 2 ^ k) ≡ q * 2 ^ k * c
  whole = ap (λ (z : ℕ). q * z) (mul_comm c (2 ^ k)) ∙ sym (mul_assoc q (2 ^ k) c)

  U : 0 < c * 2 ^ k
  U = mul-pos C (pow_pos k)

  lower : n ≤ G * c + u
  lower =
      let a : q * 2 ^ k * c ≤ G * c = mul-le-mul_right c (mul-le-mul_right (2 ^ k) (nearest-ge q (compare (n % (c * 2 ^ k) * 2) (c * 2 ^ k)))) in
      let b : n < q * (c * 2 ^ k) + c * 2 ^ k = lt-div-mul-add U in
      go n (q * (c * 2 ^ k)) (q * 2 ^ k * c) (G * c) (c * 2 ^ k) u a b whole (mul_comm c (2 ^ k))
    where
      go : (n x y g v u : ℕ) → y ≤ g → n < x + v → x ≡ y → v ≡ u → n ≤ g + u
      go n x y g v u a b d e = omega arith

  upper : G * c ≤ n + u
  upper =
      let a : G * c ≤ suc q * 2 ^ k * c = mul-le-mul_right c (mul-le-mul_right (2 ^ k) (nearest-le q (compare (n % (c * 2 ^ k) * 2) (c * 2 ^ k)))) in
      let b : q * (c * 2 ^ k) ≤ n = div-mul-le_self n (c * 2 ^ k) in
      let f : suc q ≡ q + 1 = next q in
      let e : suc q * 2 ^ k * c ≡ q * 2 ^ k * c + u = ap (λ (z : ℕ). z * 2 ^ k * c) f
      ∙ ap (λ (z : ℕ). z * c) (add-mul q 1 (2 ^ k) ∙ ap (λ (z : ℕ). q * 2 ^ k + z) (one-mul (2 ^ k))) ∙ add-mul (q * 2 ^ k) (2 ^ k) c in
      go n (q * (c * 2 ^ k)) (q * 2 ^ k * c) (G * c) (suc q * 2 ^ k * c) u a b whole e
    where
      next : (q : ℕ) → suc q ≡ q + 1
      next q = omega arith

      go : (n x y g z u : ℕ) → g ≤ z → x ≤ n → x ≡ y → z ≡ y + u → g ≤ n + u
      go n x y g z u a b d e = omega arith

  pub not_less : (2 ^ 52 - 1) * n ≤ 2 ^ 52 * ((G + 1) * c)
  not_less = go n (G * c) c u ((G + 1) * c) lower (add-mul G 1 c ∙ ap (λ (z : ℕ). G * c + z) (one-mul c)) unit
    where
      go : (n g c u h : ℕ) → n ≤ g + u → h ≡ g + c → (u ≡ c) ⊎ (2 ^ 52 * u ≤ n) → (2 ^ 52 - 1) * n ≤ 2 ^ 52 * h
      go n g c u h l e (inl f) = omega arith
      go n g c u h l e (inr f) = omega arith

  pub not_more : 2 ^ 52 * (G * c) ≤ (2 ^ 52 + 1) * n + 2 ^ 52 * c
  not_more = go n (G * c) c u upper unit
    where
      go : (n g c u : ℕ) → g ≤ n + u → (u ≡ c) ⊎ (2 ^ 52 * u ≤ n) → 2 ^ 52 * g ≤ (2 ^ 52 + 1) * n + 2 ^ 52 * c
      go n g c u l (inl h) = omega arith
      go n g c u l (inr h) = omega arith
