-- A weight times a height, and the sum of three such products whose weights make about 1: it is hardly above the highest.
-- A weight u lies between (r - 2) / 2^40 and (r - 1) / 2^40, a height a between -2^20 and t / 2^20 - 2^20.
use mathlib.Core.Bool.{true, false}
use mathlib.Core.Logic.{◌⊎◌, inl, inr, ⊎_elim}
use mathlib.Core.Path.{◌≡◌, refl, ap}
use Prim.Native.Nat.{ℕ, ◌+◌, ◌-◌, ◌*◌, ◌/◌, ◌^◌, ◌≤◌}
use native.Mathlib.Nat.{zero-mul, mul_comm, mul_assoc, mul_left_comm, add-mul, mul-add, mul-pos, mul-le-mul, mul-le-mul_right, div-mul-le_self, lt-div-mul-add}
use native.Mathlib.Omega.{arith}
use lib.Dec.{T}
use lib.Ieee.{Float, nan, inf, fin, binary64, up, down, add, mul}
use lib.Ieee.Positive.{den, den_pos}
use lib.Ieee.Scale.{finite}
use Rattle.order.proofs.Signed.{upper, lower}
use Rattle.order.proofs.Order.{is_mul}
use Rattle.tops.proofs.Fractions.{Held, held_of, held_add}

-- ---- the product of (r - 2) / g + x and (t - m) / h - y, in whole numbers
module _ (u l d r x a b c t y g h m : ℕ) (p : g * u + 2 * d ≡ r * d + g * l + x) (q : h * a + m * c + y ≡ t * c + h * b) where
  same : (u * a + l * b) * h * g + 2 * t * (d * c) + r * m * (d * c) + (x * m * c + (r * d + x) * y)
      ≡ (u * b + l * a) * h * g + r * t * (d * c) + 2 * m * (d * c) + (x * t * c + 2 * d * y)
  same =
      simp (add-mul, mul-add, mul_assoc, mul_comm, mul_left_comm)
      (omega (
        arith,
        simp (add-mul, mul-add, mul_assoc, mul_comm, mul_left_comm) at (ap (λ (z : ℕ). z * (h * a)) p),
        simp (add-mul, mul-add, mul_assoc, mul_comm, mul_left_comm) at (ap (λ (z : ℕ). z * (h * b)) p),
        simp (add-mul, mul-add, mul_assoc, mul_comm, mul_left_comm) at (ap (λ (z : ℕ). z * (r * d + x)) q),
        simp (add-mul, mul-add, mul_assoc, mul_comm, mul_left_comm) at (ap (λ (z : ℕ). z * d) q),
      ))

  under : x ≤ d → y ≤ t * c → t ≤ 2 * m → (u * a + l * b) * h * g + (r * m + 2 * t) * (d * c) ≤ (r * t + 7 * m) * (d * c) + (u * b + l * a) * h * g
  under X Y Z =
      omega (
        arith,
        same,
        part,
        rest,
        add-mul (r * m) (2 * t) (d * c),
        add-mul (r * t) (7 * m) (d * c),
        mul_assoc 2 m (d * c),
        mul_assoc 7 m (d * c),
      )
    where
      part : x * t * c ≤ x * m * c + m * (d * c)
      part =
          let i = mul-le-mul_right (x * c) Z in
          let j = mul-le-mul_right (m * c) X in
          simp (mul_assoc, mul_comm, mul_left_comm)
          (omega (arith, simp (mul_assoc, mul_comm, mul_left_comm) at i, simp (mul_assoc, mul_comm, mul_left_comm) at j))

      rest : 2 * d * y ≤ 4 * (m * (d * c))
      rest =
          let i = mul-le-mul_right d Y in
          let j = mul-le-mul_right (c * d) Z in
          simp (mul_assoc, mul_comm, mul_left_comm)
          (omega (arith, simp (mul_assoc, mul_comm, mul_left_comm) at i, simp (mul_assoc, mul_comm, mul_left_comm) at j))

-- ---- the same of floats
abbrev pub G : ℕ
G = 2 ^ 40

abbrev pub H : ℕ
H = 2 ^ 20

-- the bound of a product is (most - less) / 2^20
pub most : ℕ → ℕ → ℕ
most r t = (r * t + 7 * G) / G + 1

pub less : ℕ → ℕ → ℕ
less r t = (r * G + 2 * t) / G

module _ (r t : ℕ) where
  most_above : r * t + 7 * G ≤ most r t * G
  unfolding most
  most_above = let n = r * t + 7 * G in let q = n / G in omega (arith, lt-div-mul-add {a = n} {b = G} (omega arith))

  most_below : most r t * G ≤ r * t + 8 * G
  unfolding most
  most_below = let n = r * t + 7 * G in let q = n / G in omega (arith, div-mul-le_self n G)

  less_below : less r t * G ≤ r * G + 2 * t
  unfolding less
  less_below = div-mul-le_self (r * G + 2 * t) G

  less_above : r * G + 2 * t ≤ less r t * G + G
  unfolding less
  less_above = let n = r * G + 2 * t in omega (arith, lt-div-mul-add {a = n} {b = G} (omega arith))

  module _ (R : r ≤ G + 6) (S : t ≤ 2 * G) where
    most_few : most r t ≤ 2 * G + 20
    most_few =
        let k : r * t ≤ (G + 6) * (2 * G) = mul-le-mul R S in
        omega (arith, most_below, k)

    less_few : less r t ≤ G + 10
    less_few = omega (arith, less_below)

sign : (x : Float) → T (finite x) → (lower x ≡ 0) ⊎ (upper x ≡ 0)
sign nan f = absurd f
sign (inf s) f = absurd f
sign (fin false m e) f = inl refl
sign (fin true m e) f = inr refl

crude : (u d a b c : ℕ) → u ≤ 2 * d → H * b ≤ G * c + H * a → (u * b) * H ≤ (u * a) * H + 2 * G * (d * c)
crude u d a b c p q =
    let i = mul-le-mul_right u q in
    let j = mul-le-mul_right (G * c) p in
    simp (add-mul, mul_assoc, mul_comm, mul_left_comm)
    (omega (arith, simp (add-mul, mul_assoc, mul_comm, mul_left_comm) at i, simp (add-mul, mul_assoc, mul_comm, mul_left_comm) at j))

module _ (u a : Float) (r t : ℕ) (R : r ≤ G + 6) (S : t ≤ 2 * G) (w : Held G (r + 1) 2 r 2 u) (z : Held H t G 0 G a) where
  abbrev p : ℕ
  p = upper u * upper a + lower u * lower a

  abbrev n : ℕ
  n = upper u * lower a + lower u * upper a

  abbrev c : ℕ
  c = den u * den a

  scaled : p * H * G + (r * G + 2 * t) * c ≤ (r * t + 7 * G) * c + n * H * G
  scaled =
      let x = G * upper u + 2 * den u - (r * den u + G * lower u) in
      let y = t * den a + H * lower a - (H * upper a + G * den a) in
      under (upper u) (lower u) (den u) r x (upper a) (lower a) (den a) t y G H G
      (omega (arith, w.below))
      (omega (arith, z.above))
      (omega (arith, w.above, add-mul r 1 (den u)))
      (omega (arith, z.below, zero-mul (den a)))
      S

  high : p * H + less r t * c ≤ most r t * c + n * H
  high =
      let i = mul-le-mul_right c (less_below r t) in
      let j = mul-le-mul_right c (most_above r t) in
      omega (arith, scaled, simp (mul_assoc, mul_comm, mul_left_comm) at i, simp (mul_assoc, mul_comm, mul_left_comm) at j)

  -- and not far below 0
  deep : n * H ≤ p * H + 4 * G * c
  deep =
      let up : upper u ≤ 2 * den u + lower u = omega (arith, w.above, add-mul r 1 (den u), mul-le-mul_right (den u) R) in
      let down : lower u ≤ 2 * den u + upper u = omega (arith, w.below) in
      let over : H * upper a ≤ G * den a + H * lower a = omega (arith, z.above, mul-le-mul_right (den a) S) in
      let beneath : H * lower a ≤ G * den a + H * upper a = omega (arith, z.below, zero-mul (den a)) in
      ⊎_elim
      (λ e. rw e (omega (arith, zero-mul (upper a), zero-mul (lower a), crude (upper u) (den u) (upper a) (lower a) (den a) (omega (arith, up, e)) beneath)))
      (λ e. rw e (omega (arith, zero-mul (upper a), zero-mul (lower a), crude (lower u) (den u) (lower a) (upper a) (den a) (omega (arith, down, e)) over)))
      (sign u w.fine)

  pub weighed : Held H (most r t) (less r t) 0 (4 * G) (mul binary64 u a)
  weighed =
      held_of _ _ _ _ 20 (most r t) (less r t) 0 (4 * G) (mul-pos (den_pos u) (den_pos a)) (omega arith) (omega (arith, most_few r t R S))
      (omega (arith, less_few r t R S)) (omega arith) (omega arith) (is_mul u a w.fine z.fine)
      high (omega (arith, zero-mul c, deep))

-- ---- three of them
module _ (u v w a b c : Float) (i j k t : ℕ) (S : t ≤ 2 * G) (low : G + 3 ≤ i + j + k) (high : i + j + k ≤ G + 6)
    (wu : Held G (i + 1) 2 i 2 u) (wv : Held G (j + 1) 2 j 2 v) (ww : Held G (k + 1) 2 k 2 w)
    (za : Held H t G 0 G a) (zb : Held H t G 0 G b) (zc : Held H t G 0 G c) where
  abbrev K : ℕ
  K = most i t + most j t + most k t

  abbrev L : ℕ
  L = less i t + less j t + less k t

  pub summed : Held H K L 0 (12 * G) (add binary64 (add binary64 (mul binary64 u a) (mul binary64 v b)) (mul binary64 w c))
  summed =
      let I : i ≤ G + 6 = omega arith in
      let J : j ≤ G + 6 = omega arith in
      let N : k ≤ G + 6 = omega arith in
      held_add _ _ 20 _ _ _ _ _ _ _ _ (omega arith) (omega (arith, most_few i t I S, most_few j t J S, most_few k t N S))
      (omega (arith, less_few i t I S, less_few j t J S, less_few k t N S)) (omega arith) (omega arith)
      (held_add _ _ 20 _ _ _ _ _ _ _ _ (omega arith) (omega (arith, most_few i t I S, most_few j t J S)) (omega (arith, less_few i t I S, less_few j t J S))
      (omega arith) (omega arith) (weighed u a i t I S wu za) (weighed v b j t J S wv zb))
      (weighed w c k t N S ww zc)

  -- hardly above the highest
  pub hardly : K + G ≤ L + t + 24
  hardly =
      let s : i * t + j * t + k * t ≤ G * t + 6 * t = omega (arith, mul-le-mul_right t high, add-mul (i + j) k t, add-mul i j t) in
      omega (arith, s, most_below i t, most_below j t, most_below k t, less_above i t, less_above j t, less_above k t)
