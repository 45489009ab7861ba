-- The numbers from 0 to 1, and that both inner points of a bracket of such numbers lie there too, as they are computed.
use mathlib.Core.Bool.{true, false}
use mathlib.Core.Logic.{inl}
use mathlib.Core.Path.{◌≡◌, refl, ap, sym, ◌∙◌}
use Prim.Native.Nat.{ℕ, ◌+◌, ◌-◌, ◌*◌, ◌/◌, ◌^◌, ◌≤◌, ◌<◌}
use native.Mathlib.Nat.{mul-sub, mul_right_comm, zero-mul, mul-zero, mul-one, one-mul, mul_comm, mul_assoc, mul_left_comm, add-mul}
use native.Mathlib.Nat.{mul-add, mul-pos, mul-le-mul_right, div-add-mod', mod-lt, lt_of_mul-lt-mul_right, lt_of_lt_of_le}
use native.Mathlib.Omega.{arith}
use borrow.Author.Tests.{ltb-true, ltb-false}
use lib.Dec.{T, ltb}
use lib.IntN.{pos, negsuc}
use lib.Pow.{pow_pos, pow_mono, shl_lt}
use lib.Ieee.{Float, nan, inf, fin, binary64, round, sum, add, sub, neg, le, fits, of_bits}
use lib.Ieee.Exact.{HasValue, round_exact}
use lib.Ieee.Fits.{add-fits, sub-fits, neg-fits}
use lib.Ieee.Scale.{finite}
use lib.Ieee.Positive.{den, den_pos}
use Rattle.numbers.specs.Reals.{◌⊕◌, ◌⊖◌, ◌⊗◌}
use Rattle.golden.specs.Phi.{phi}
use Rattle.golden.specs.Search.{lower, upper}
use Rattle.order.proofs.Signed as signed
use Rattle.order.proofs.Signed.{le→parts, Is, rounded, is_le, is_sub, round_neg}
use Rattle.order.proofs.Ranges.{finite_between, sub_mono, zero_is}
use Rattle.rules.proofs.Branches.{by_test}
use Rattle.order.proofs.Order.{O, le_trans, neg_finite, neg_upper, neg_turns, sub_turns, add_is, add_right}
use Rattle.order.proofs.Order.{is_mul, mul_up, mul_swap, no_lower, no_upper, own, up_is, down_is}

-- 1, and phi
abbrev pub I : Float
I = fin false 1 (pos 0)

abbrev pub Φ : Float
Φ = fin false 347922205179541 (negsuc 48)

pub phi_is : phi ≡ Φ
unfolding of_bits
phi_is = refl

pub record Unit (t : Float) : Type 0 where
  pub low : T (le O t)
  pub high : T (le t I)
  pub fit : T (fits binary64 t)

pub unit_finite : (t : Float) → Unit t → T (finite t)
unit_finite t u = finite_between O t I tt tt u.low u.high

-- ---- phi times a number is nearer to 0
shrink : (u l d N D : ℕ) → l ≡ 0 → N ≤ D → (u * N + l * 0) * d + l * (d * D) ≤ u * (d * D) + (u * 0 + l * N) * d
shrink u l d N D e h =
    let k = mul-le-mul_right (u * d) h in
    rw e (simp (add-mul, mul-add, mul_assoc, mul_comm, mul_left_comm, zero-mul, mul-zero)
    (omega (arith, simp (add-mul, mul-add, mul_assoc, mul_comm, mul_left_comm) at k)))

grow : (u l d N D : ℕ) → u ≡ 0 → N ≤ D → u * (d * D) + (u * 0 + l * N) * d ≤ (u * N + l * 0) * d + l * (d * D)
grow u l d N D e h =
    let k = mul-le-mul_right (l * d) h in
    rw e (simp (add-mul, mul-add, mul_assoc, mul_comm, mul_left_comm, zero-mul, mul-zero)
    (omega (arith, simp (add-mul, mul-add, mul_assoc, mul_comm, mul_left_comm) at k)))

module _ (w : Float) (g : T (fits binary64 w)) (p : T (finite w)) where
  pub less_up : T (le O w) → T (le (w ⊗ Φ) w)
  less_up h =
      is_le binary64 _ _ _ _ _ _ _ _ (mul-pos (den_pos w) (den_pos Φ)) (den_pos w)
      (shrink (signed.upper w) (signed.lower w) (den w) 347922205179541 (2 ^ 49) (no_lower w p h) (omega arith))
      (is_mul w Φ p tt) (own w g p)

  less_down : T (le w O) → T (le w (w ⊗ Φ))
  less_down h =
      is_le binary64 _ _ _ _ _ _ _ _ (den_pos w) (mul-pos (den_pos w) (den_pos Φ))
      (grow (signed.upper w) (signed.lower w) (den w) 347922205179541 (2 ^ 49) (no_upper w p h) (omega arith))
      (own w g p) (is_mul w Φ p tt)

-- ---- the next multiple of 2 ^ -53, q / 2 ^ 53, above 1 - a: they differ by at most 2 ^ -53
abbrev ceil : ℕ → ℕ → ℕ
ceil A c = (A * 2 ^ 53 + (c - 1)) / c

module _ (A c : ℕ) (C : 0 < c) where
  ceil_above : A * 2 ^ 53 ≤ ceil A c * c
  ceil_above = omega (arith, div-add-mod' (A * 2 ^ 53 + (c - 1)) c, mod-lt (A * 2 ^ 53 + (c - 1)) C)

  ceil_below : ceil A c * c ≤ A * 2 ^ 53 + c
  ceil_below = omega (arith, div-add-mod' (A * 2 ^ 53 + (c - 1)) c)

  ceil_most : A ≤ c → ceil A c ≤ 2 ^ 53
  ceil_most h =
      let k : ceil A c * c < (2 ^ 53 + 1) * c = omega (arith, div-add-mod' (A * 2 ^ 53 + (c - 1)) c) in
      let l = lt_of_mul-lt-mul_right c k in
      omega arith

exact : (q : ℕ) → q ≤ 2 ^ 53 → HasValue (round binary64 false q (2 ^ 53)) false q (2 ^ 53)
exact q h =
    by_test (ltb q (2 ^ 53))
    (λ e.
    let l = ltb-true q (2 ^ 53) e in
    round_exact binary64 false q (2 ^ 53) q 1021 (pow_pos 53) l (lt_of_lt_of_le (shl_lt 53 1021 l) (pow_mono {i = 1074} {j = 2098} (omega arith)))
    (sym (mul_assoc q (2 ^ 1021) (2 ^ 53))))
    (λ e. let l : q ≡ 2 ^ 53 = omega (arith, ltb-false q (2 ^ 53) e) in rw l (unfold round in (refl, refl)))

value_parts : (R : Float) (q c : ℕ) → HasValue R false q c → T (finite R) × (signed.lower R ≡ 0) × (signed.upper R * c ≡ q * den R)
value_parts nan q c v = absurd v
value_parts (inf s) q c v = absurd v
value_parts (fin true n d) q c v = absurd (let k : ◌≡◌ {A = ℕ} 0 1 = cc in omega arith)
value_parts (fin false n d) q c v = (tt, refl, v.1)

one_is : Is binary64 I (2 ^ 53 + 1) 0 (2 ^ 53)
one_is = inl (unfold rounded round in refl)

sub_mul : (a b c : ℕ) → (a - b) * c ≡ a * c - b * c
sub_mul a b c = mul_comm (a - b) c ∙ mul-sub c a b ∙ (rw (mul_comm c a, mul_comm c b))

past : (ua la da uR lR dR q : ℕ) → la ≡ 0 → lR ≡ 0 → uR * 2 ^ 53 ≡ q * dR → ua ≤ da → q * da ≤ (da - ua) * 2 ^ 53 + da
    → (ua * dR + uR * da) * 2 ^ 53 + 0 * (da * dR) ≤ (2 ^ 53 + 1) * (da * dR) + (lR * da + la * dR) * 2 ^ 53
past ua la da uR lR dR q e₁ e₂ v h k =
    let a : uR * da * 2 ^ 53 ≡ q * da * dR = mul_right_comm uR da (2 ^ 53) ∙ ap (λ (z : ℕ). z * da) v ∙ mul_right_comm q dR da in
    let b = mul-le-mul_right dR k in
    let c : ((da - ua) * 2 ^ 53 + da) * dR ≡ (da - ua) * dR * 2 ^ 53 + da * dR = add-mul ((da - ua) * 2 ^ 53) da dR
    ∙ ap (λ (z : ℕ). z + da * dR) (mul_right_comm (da - ua) (2 ^ 53) dR) in
    let d = sub_mul da ua dR in
    let l = mul-le-mul_right dR h in
    omega (arith, zero-mul (da * dR), a, b, c, d, l)

module _ (a : Float) (u : Unit a) where
  fa : T (finite a)
  fa = unit_finite a u

  la : signed.lower a ≡ 0
  la = no_lower a fa u.low

  under : signed.upper a ≤ den a
  under = omega (arith, le→parts a I fa tt u.high, la, mul-one (signed.upper a), zero-mul (den a), one-mul (den a))

  abbrev q : ℕ
  q = ceil (den a - signed.upper a) (den a)

  abbrev R : Float
  R = round binary64 false q (2 ^ 53)

  at_R : T (finite R) × (signed.lower R ≡ 0) × (signed.upper R * 2 ^ 53 ≡ q * den R)
  at_R = value_parts R q (2 ^ 53) (exact q (ceil_most (den a - signed.upper a) (den a) (den_pos a) (omega arith)))

  -- a + R is at most 1 + 2 ^ -53, which is rounded to 1
  not_past : T (le (a ⊕ R) I)
  not_past =
      let n = neg_upper R in
      rw (sym (add_is binary64 a R))
      (is_le binary64 _ _ _ _ _ _ _ _ (mul-pos (den_pos a) (den_pos (neg R))) (pow_pos 53)
      (rw (n.0, n.1, n.2) (past (signed.upper a) (signed.lower a) (den a) (signed.upper R) (signed.lower R) (den R) q la at_R.1 at_R.2 under
      (ceil_below (den a - signed.upper a) (den a) (den_pos a))))
      (is_sub binary64 a (neg R) fa (neg_finite R at_R.0)) one_is)

  -- so the two differences from 1 stay within it
  self : T (le O (a ⊖ a))
  self =
      is_le binary64 _ _ _ _ _ _ _ _ (omega arith) (mul-pos (den_pos a) (den_pos a))
      (omega (arith, zero-mul (den a * den a), mul-one (signed.upper a * den a + signed.lower a * den a)))
      zero_is (is_sub binary64 a a fa fa)

  rest_low : T (le O (I ⊖ a))
  rest_low = le_trans O (a ⊖ a) (I ⊖ a) self (sub_mono binary64 a I a fa tt fa u.high)

  rest_high : T (le (I ⊖ a) R)
  rest_high =
      is_le binary64 _ _ _ _ _ _ _ _ (mul-pos (den_pos I) (den_pos a)) (pow_pos 53)
      (cross (signed.upper a) (signed.lower a) (den a) q la under (ceil_above (den a - signed.upper a) (den a) (den_pos a)))
      (is_sub binary64 I a tt fa) (up_is q (2 ^ 53))
    where
      cross : (u l d k : ℕ) → l ≡ 0 → u ≤ d → (d - u) * 2 ^ 53 ≤ k * d → (1 * d + l * 1) * 2 ^ 53 + 0 * (1 * d) ≤ k * (1 * d) + (u * 1 + 0 * d) * 2 ^ 53
      cross u l d k e h b = rw (one-mul d) (omega (arith, zero-mul d))

  rest_finite : T (finite (I ⊖ a))
  rest_finite = finite_between O (I ⊖ a) R tt at_R.0 rest_low rest_high

  back_high : T (le (a ⊖ I) O)
  back_high = le_trans (a ⊖ I) (I ⊖ I) O (sub_mono binary64 a I I fa tt tt u.high) (unfold sub add neg sum round le in tt)

  back_low : T (le (neg R) (a ⊖ I))
  back_low =
      rw (sym (round_neg binary64 q (2 ^ 53)))
      (is_le binary64 _ _ _ _ _ _ _ _ (pow_pos 53) (mul-pos (den_pos a) (den_pos I))
      (cross (signed.upper a) (signed.lower a) (den a) q la under (ceil_above (den a - signed.upper a) (den a) (den_pos a)))
      (down_is q (2 ^ 53) (pow_pos 53)) (is_sub binary64 a I fa tt))
    where
      cross : (u l d k : ℕ) → l ≡ 0 → u ≤ d → (d - u) * 2 ^ 53 ≤ k * d → 0 * (d * 1) + (1 * d + l * 1) * 2 ^ 53 ≤ (u * 1 + 0 * d) * 2 ^ 53 + k * (d * 1)
      cross u l d k e h b = rw (mul-one d) (omega (arith, zero-mul d))

  back_finite : T (finite (a ⊖ I))
  back_finite = finite_between (neg R) (a ⊖ I) O (neg_finite R at_R.0) tt back_low back_high

  -- the number itself, beside differences from 0
  minus_fits : T (fits binary64 (neg a))
  minus_fits = neg-fits binary64 a u.fit

  minus_low : T (le (neg a) O)
  minus_low = le_trans (neg a) (neg O) O (neg_turns O a tt fa u.low) (unfold neg le in tt)

  minus_is : T (le (neg a) (O ⊖ a))
  minus_is =
      let n = neg_upper a in
      is_le binary64 _ _ _ _ _ _ _ _ (den_pos (neg a)) (mul-pos (den_pos O) (den_pos a))
      (rw (n.0, n.1, n.2, one-mul (den a)) (omega (arith, zero-mul (den a), mul-one (signed.upper a), mul-one (signed.lower a))))
      (own (neg a) minus_fits (neg_finite a fa)) (is_sub binary64 O a tt fa)

  less_is : T (le (a ⊖ O) a)
  less_is =
      is_le binary64 _ _ _ _ _ _ _ _ (mul-pos (den_pos a) (den_pos O)) (den_pos a)
      (rw (mul-one (den a)) (omega (arith, zero-mul (den a), mul-one (signed.upper a), mul-one (signed.lower a))))
      (is_sub binary64 a O fa tt) (own a u.fit fa)

-- ---- the inner points of a bracket a..b
module _ (a b : Float) (u : Unit a) (v : Unit b) where
  A : T (finite a)
  A = unit_finite a u

  B : T (finite b)
  B = unit_finite b v

  abbrev w : Float
  w = b ⊖ a

  w_low : T (le (neg a) w)
  w_low = le_trans (neg a) (O ⊖ a) w (minus_is a u) (sub_mono binary64 O b a tt B A v.low)

  w_high : T (le w (I ⊖ a))
  w_high = sub_mono binary64 b I a B tt A v.high

  W : T (finite w)
  W = finite_between (neg a) w (I ⊖ a) (neg_finite a A) (rest_finite a u) w_low w_high

  back : T (le (b ⊖ I) w)
  back = sub_turns binary64 a I b A tt B u.high

  within : T (le w b)
  within = le_trans w (b ⊖ O) b (sub_turns binary64 O a b tt A B u.low) (less_is b v)

  abbrev y : Float
  y = w ⊗ Φ

  part : phi ⊗ w ≡ y
  part = ap (λ (z : Float). z ⊗ w) phi_is ∙ mul_swap Φ w tt W

  y_low : T (le (neg a) y)
  y_low =
      le_trans (neg a) (neg a ⊗ Φ) y (less_down (neg a) (minus_fits a u) (neg_finite a A) (minus_low a u)) (mul_up (neg a) w Φ (neg_finite a A) W tt w_low refl)

  y_high : T (le y (I ⊖ a))
  y_high =
      le_trans y ((I ⊖ a) ⊗ Φ) (I ⊖ a) (mul_up w (I ⊖ a) Φ W (rest_finite a u) tt w_high refl)
      (less_up (I ⊖ a) (sub-fits binary64 I a) (rest_finite a u) (rest_low a u))

  Y : T (finite y)
  Y = finite_between (neg a) y (I ⊖ a) (neg_finite a A) (rest_finite a u) y_low y_high

  y_back : T (le (b ⊖ I) y)
  y_back =
      le_trans (b ⊖ I) ((b ⊖ I) ⊗ Φ) y (less_down (b ⊖ I) (sub-fits binary64 b I) (back_finite b v) (back_high b v))
      (mul_up (b ⊖ I) w Φ (back_finite b v) W tt back refl)

  y_within : T (le y b)
  y_within = le_trans y (b ⊗ Φ) b (mul_up w b Φ W B tt within refl) (less_up b v.fit B v.low)

  up_low : T (le O (a ⊕ y))
  unfolding sub
  up_low = le_trans O (a ⊖ a) (a ⊕ y) (self a u) (add_right binary64 (neg a) y a (neg_finite a A) Y A y_low)

  up_high : T (le (a ⊕ y) I)
  up_high =
      le_trans (a ⊕ y) (a ⊕ R a u) I
      (add_right binary64 y (R a u) a Y (at_R a u).0 A (le_trans y (I ⊖ a) (R a u) y_high (rest_high a u)))
      (not_past a u)

  down_low : T (le O (b ⊖ y))
  down_low = le_trans O (b ⊖ b) (b ⊖ y) (self b v) (sub_turns binary64 y b b Y B B y_within)

  down_high : T (le (b ⊖ y) I)
  down_high =
      le_trans (b ⊖ y) (b ⊖ neg (R b v)) I
      (sub_turns binary64 (neg (R b v)) y b (neg_finite (R b v) (at_R b v).0) Y B (le_trans (neg (R b v)) (b ⊖ I) y (back_low b v) y_back))
      (rw (add_is binary64 b (R b v)) (not_past b v))

  pub upper_stays : Unit (upper a b)
  upper_stays = record { low = rw part up_low; high = rw part up_high; fit = add-fits binary64 a (phi ⊗ w) }

  pub lower_stays : Unit (lower a b)
  lower_stays = record { low = rw part down_low; high = rw part down_high; fit = sub-fits binary64 b (phi ⊗ w) }
