-- The weights of a place on a triangle, none below -1e-12, make about 1; so a point of the plane there is hardly above the highest corner.
use mathlib.Core.Bool.{true, false}
use mathlib.Core.Path.{◌≡◌, refl}
use Prim.Native.Nat.{ℕ, ◌+◌, ◌*◌, ◌≤◌}
use native.Mathlib.Nat.{zero-mul, mul-one, add-mul, le_of_mul-le-mul_right}
use native.Mathlib.Omega.{arith}
use lib.Dec.{T}
use lib.IntN.{pos, negsuc}
use lib.Ieee.{Float, nan, inf, fin, binary64, sum, round, add, sub, neg, lt, le, eq}
use lib.Ieee.Positive.{den, den_pos}
use lib.Ieee.Scale.{finite}
use Rattle.numbers.specs.Reals.{◌⊕◌, ◌⊖◌, ◌⊗◌}
use Rattle.order.proofs.Signed.{upper, lower, le→parts}
use Rattle.order.proofs.Ranges.{finite_between, sub_mono}
use Rattle.rules.proofs.Branches.{by_test}
use Rattle.order.proofs.Extremes.{not_below_lem, lt_le}
use Rattle.order.proofs.Order.{le_trans, sub_turns}
use Rattle.tops.proofs.Fractions.{Held, held_more, held_sub, floor, held_floor}
use Rattle.tops.proofs.Products.{G, H, summed, hardly}

-- -1e-12, 1 and 2
abbrev pub S : Float
S = fin true 4951760157141521 (negsuc 91)

abbrev pub I : Float
I = fin false 1 (pos 0)

abbrev II : Float
II = fin false 1 (pos 1)

-- ---- no weight is infinite
minus_inf : (y : Float) → T (le S (y ⊖ inf false)) → ⊥
unfolding sub add neg le lt eq
minus_inf nan h = h
minus_inf (inf true) h = h
minus_inf (inf false) h = h
minus_inf (fin s m e) h = h

from_inf : (w : Float) → T (le S w) → T (le S (inf true ⊖ w)) → ⊥
unfolding sub add neg le lt eq
from_inf nan k h = h
from_inf (inf true) k h = k
from_inf (inf false) k h = h
from_inf (fin s m e) k h = h

one_less : I ⊖ inf false ≡ inf true
unfolding sub add neg
one_less = refl

second : (y w : Float) → T (le S w) → T (le S (y ⊖ w)) → T (finite w)
second y nan k h = absurd (unfold le lt eq in k)
second y (inf true) k h = absurd (unfold le lt eq in k)
second y (inf false) k h = absurd (minus_inf y h)
second y (fin s m e) k h = tt

first : (v w : Float) → T (le S v) → T (le S w) → T (le S (I ⊖ v ⊖ w)) → T (finite v)
first nan w g k h = absurd (unfold le lt eq in g)
first (inf true) w g k h = absurd (unfold le lt eq in g)
first (inf false) w g k h = absurd (from_inf w k (rw one_less at h))
first (fin s m e) w g k h = tt

-- what is at most a number and leaves one at least S is a number
middle : (y b w : Float) → T (finite b) → T (le y b) → T (le S w) → T (le S (y ⊖ w)) → T (finite y)
middle nan b w f l k h = absurd (unfold le lt eq in l)
middle (inf true) b w f l k h = absurd (from_inf w k h)
middle (inf false) nan w f l k h = absurd f
middle (inf false) (inf s) w f l k h = absurd f
middle (inf false) (fin s m e) w f l k h = absurd (unfold le lt eq in l)
middle (fin s m e) b w f l k h = tt

-- ---- none is above 2
one_two : I ⊖ II ≡ fin true 1 (pos 0)
unfolding sub add neg sum round
one_two = refl

too_low_lem : T (le S (fin true 1 (pos 0) ⊖ S)) → ⊥
unfolding sub add neg sum round le lt eq
too_low_lem h = h

too-low-2 : T (le S (I ⊖ S ⊖ II)) → ⊥
unfolding sub add neg sum round le lt eq
too-low-2 h = h

module _ (v w : Float) (p : T (le S v)) (q : T (le S w)) (r : T (le S (I ⊖ v ⊖ w))) where
  fv : T (finite v)
  fv = first v w p q r

  fw : T (finite w)
  fw = second (I ⊖ v) w q r

  abbrev y : Float
  y = I ⊖ v

  top : T (finite (I ⊖ S))
  unfolding sub add neg sum round
  top = tt

  y_most : T (le y (I ⊖ S))
  y_most = sub_turns binary64 S v I tt fv tt p

  fy : T (finite y)
  fy = middle y (I ⊖ S) w top y_most q r

  v_most : T (le v II)
  v_most =
      by_test (lt II v)
      (λ l.
      let a = rw one_two at (sub_turns binary64 II v I tt fv tt (lt_le II v l)) in
      let b = sub_mono binary64 y (fin true 1 (pos 0)) w fy tt fw a in
      let c = sub_turns binary64 S w (fin true 1 (pos 0)) tt fw tt q in
      absurd (too_low_lem (le_trans S (y ⊖ w) _ r (le_trans (y ⊖ w) _ _ b c))))
      (λ l. not_below_lem II v tt fv l)

  w_most : T (le w II)
  w_most =
      by_test (lt II w)
      (λ l.
      let b = sub_mono binary64 y (I ⊖ S) w fy top fw y_most in
      let c = sub_turns binary64 II w (I ⊖ S) tt fw top (lt_le II w l) in
      absurd (too-low-2 (le_trans S (y ⊖ w) _ r (le_trans (y ⊖ w) _ _ b c))))
      (λ l. not_below_lem II w tt fw l)

-- ---- as fractions
weight_low : (x : Float) → T (finite x) → T (le S x) → G * lower x ≤ G * upper x + 2 * den x
weight_low x f h = omega (arith, zero-mul (den x), le→parts S x tt f h)

weight_few : (x : Float) (n : ℕ) → T (finite x) → T (le x II) → Held G (n + 1) 2 n 2 x → n ≤ 2 * G + 2
weight_few x n f h g =
    le_of_mul-le-mul_right {m = n} {n = 2 * G + 2} {k = den x}
    (omega (arith, g.below, zero-mul (den x), mul-one (upper x), mul-one (lower x), le→parts x II f tt h, add-mul (2 * G) 2 (den x))) (den_pos x)

one_held : Held G G 0 G 0 I
one_held = record { fine = tt; above = omega arith; below = omega arith }

module _ (v w : Float) (p : T (le S v)) (q : T (le S w)) (r : T (le S (I ⊖ v ⊖ w))) where
  abbrev u : Float
  u = I ⊖ v ⊖ w

  -- a number between the constants
  fu : T (finite u)
  fu =
      finite_between S u (I ⊖ S ⊖ S) tt (unfold sub add neg sum round in tt) r
      (le_trans u (I ⊖ S ⊖ w) (I ⊖ S ⊖ S)
      (sub_mono binary64 (I ⊖ v) (I ⊖ S) w (fy v w p q r) (top v w p q r) (fw v w p q r) (y_most v w p q r))
      (sub_turns binary64 S w (I ⊖ S) tt (fw v w p q r) (top v w p q r) q))

  i : ℕ
  i = floor u G 2 fu (weight_low u fu r)

  j : ℕ
  j = floor v G 2 (fv v w p q r) (weight_low v (fv v w p q r) p)

  k : ℕ
  k = floor w G 2 (fw v w p q r) (weight_low w (fw v w p q r) q)

  hu : Held G (i + 1) 2 i 2 u
  unfolding i
  hu = held_floor u G 2 fu (weight_low u fu r)

  hv : Held G (j + 1) 2 j 2 v
  unfolding j
  hv = held_floor v G 2 (fv v w p q r) (weight_low v (fv v w p q r) p)

  hw : Held G (k + 1) 2 k 2 w
  unfolding k
  hw = held_floor w G 2 (fw v w p q r) (weight_low w (fw v w p q r) q)

  jn : j ≤ 2 * G + 2
  jn = weight_few v j (fv v w p q r) (v_most v w p q r) hv

  kn : k ≤ 2 * G + 2
  kn = weight_few w k (fw v w p q r) (w_most v w p q r) hw

  hy : Held G (G + 2) (0 + j) (G + 2) (0 + (j + 1)) (I ⊖ v)
  hy = held_sub I v 40 G 0 G 0 (j + 1) 2 j 2 (omega arith) (omega arith) (omega (arith, jn)) (omega arith) (omega (arith, jn)) one_held hv

  hu' : Held G (G + 2 + 2) (0 + j + k) (G + 2 + 2) (0 + (j + 1) + (k + 1)) u
  hu' = held_sub (I ⊖ v) w 40 (G + 2) (0 + j) (G + 2) (0 + (j + 1)) (k + 1) 2 k 2 (omega arith) (omega arith) (omega (arith, jn, kn)) (omega arith)
      (omega (arith, jn, kn)) hy hw

  sum_high : i + j + k ≤ G + 6
  sum_high =
      le_of_mul-le-mul_right {m = i + j + k} {n = G + 6} {k = den u}
      (omega (
        arith,
        hu'.above,
        hu.below,
        add-mul (0 + j) k (den u),
        add-mul 0 j (den u),
        zero-mul (den u),
        add-mul (i + j) k (den u),
        add-mul i j (den u),
        add-mul G 6 (den u),
      )) (den_pos u)

  sum_low : G + 3 ≤ i + j + k
  sum_low =
      le_of_mul-le-mul_right {m = G + 3} {n = i + j + k} {k = den u}
      (omega (
        arith,
        hu'.below,
        hu.above,
        add-mul (0 + (j + 1)) (k + 1) (den u),
        add-mul 0 (j + 1) (den u),
        zero-mul (den u),
        add-mul j 1 (den u),
        add-mul k 1 (den u),
        add-mul i 1 (den u),
        add-mul (i + j) k (den u),
        add-mul i j (den u),
      )) (den_pos u)

  pub facet : (a b c : Float) (t : ℕ) → t ≤ 2 * G → Held H t G 0 G a → Held H t G 0 G b → Held H t G 0 G c
      → Held H (t + 24) G 0 (12 * G) (u ⊗ a ⊕ v ⊗ b ⊕ w ⊗ c)
  facet a b c t s za zb zc =
      held_more _ _ _ _ _ _ _ _ _ _ (omega (arith, hardly u v w a b c i j k t s sum_low sum_high hu hv hw za zb zc)) (omega arith)
      (summed u v w a b c i j k t s sum_low sum_high hu hv hw za zb zc)
