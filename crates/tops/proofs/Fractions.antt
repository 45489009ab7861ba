-- Numbers between two fractions of a power of two. A fraction of few digits is its own rounding, so such a bound holds of what an operation gives as it holds
-- of the exact result.
use mathlib.Core.Bool.{Bool, true, false}
use mathlib.Core.Logic.{inl}
use mathlib.Core.Path.{◌≡◌, refl, sym, ap, ◌∙◌}
use Prim.Native.Nat.{ℕ, ◌+◌, ◌-◌, ◌*◌, ◌/◌, ◌^◌, ◌≤◌, ◌<◌}
use native.Mathlib.Nat.{zero-mul, mul_comm, mul_assoc, mul_left_comm, add-mul, mul-pos, mul-le-mul_right}
use native.Mathlib.Nat.{le_of_mul-le-mul_right, lt_of_lt_of_le, div-mul-le_self, lt-div-mul-add}
use native.Mathlib.Omega.{arith}
use borrow.Author.Tests.{leb-true, leb-false}
use lib.Dec.{T, leb}
use lib.Pow.{pow-add, pow_pos, pow_mono, shl_lt}
use lib.Ieee.{Float, nan, inf, fin, binary64, round, add, sub, mul, neg}
use lib.Ieee.Exact.{HasValue, round_exact}
use lib.Ieee.Positive.{den, den_pos}
use lib.Ieee.Scale.{finite}
use Rattle.rules.proofs.Branches.{no, by_test}
use Rattle.order.proofs.Signed.{upper, lower, le→parts, Is, rounded, is_le, is_sub}
use Rattle.order.proofs.Ranges.{finite_between}
use Rattle.order.proofs.Order.{neg_finite, neg_upper, add_is, is_mul}

-- (i - j) / h <= x <= (k - o) / h
pub record Held (h k o i j : ℕ) (x : Float) : Type 0 where
  pub fine : T (finite x)
  pub above : h * upper x + o * den x ≤ k * den x + h * lower x
  pub below : i * den x + h * lower x ≤ h * upper x + j * den x

-- ---- a fraction of few digits
exact : (s : Bool) (e d : ℕ) → e ≤ 1074 → d < 2 ^ 53 → HasValue (round binary64 s d (2 ^ e)) s d (2 ^ e)
exact s e d E D =
    round_exact binary64 s d (2 ^ e) d (1074 - e) (pow_pos e) D
    (lt_of_lt_of_le (shl_lt 53 (1074 - e) D) (pow_mono {i = 53 + (1074 - e)} {j = 2098} (omega arith))) same
  where
    back : 1074 ≡ 1074 - e + e
    back = omega arith

    same : d * 2 ^ 1074 ≡ d * 2 ^ (1074 - e) * 2 ^ e
    same = ap (λ (z : ℕ). d * z) (ap (λ (z : ℕ). 2 ^ z) back ∙ pow-add 2 (1074 - e) e) ∙ sym (mul_assoc d (2 ^ (1074 - e)) (2 ^ e))

plus_is : (x : Float) (a c : ℕ) → HasValue x false a c → T (finite x) × (upper x * c ≡ a * den x) × (lower x ≡ 0)
plus_is nan a c h = absurd h
plus_is (inf s) a c h = absurd h
plus_is (fin false m e) a c h = (tt, h.1, refl)
plus_is (fin true m e) a c h = absurd (no (sym h.0))

minus_is : (x : Float) (a c : ℕ) → HasValue x true a c → T (finite x) × (lower x * c ≡ a * den x) × (upper x ≡ 0)
minus_is nan a c h = absurd h
minus_is (inf s) a c h = absurd h
minus_is (fin true m e) a c h = (tt, h.1, refl)
minus_is (fin false m e) a c h = absurd (no h.0)

-- (k - o) / h as a float
module _ (e k o : ℕ) (E : e ≤ 1074) (K : k < 2 ^ 53) (L : o < 2 ^ 53) where
  abbrev b : Float
  b = rounded binary64 k o (2 ^ e)

  parts_is : T (finite b) × (upper b * 2 ^ e + o * den b ≡ k * den b + lower b * 2 ^ e)
  unfolding rounded
  parts_is =
      by_test (leb o k)
      (λ l.
      let g = plus_is (round binary64 false (k - o) (2 ^ e)) (k - o) (2 ^ e) (exact false e (k - o) E (omega arith)) in
      let f : k ≡ k - o + o = omega (arith, leb-true o k l) in
      rw l (g.0, sums k o (k - o) _ _ _ (2 ^ e) f g.1 g.2))
      (λ l.
      let g = minus_is (round binary64 true (o - k) (2 ^ e)) (o - k) (2 ^ e) (exact true e (o - k) E (omega arith)) in
      let f : o ≡ o - k + k = omega (arith, leb-false o k l) in
      rw l (g.0, lacks k o (o - k) _ _ _ (2 ^ e) f g.1 g.2))
    where
      sums : (k o d u l n h : ℕ) → k ≡ d + o → u * h ≡ d * n → l ≡ 0 → u * h + o * n ≡ k * n + l * h
      sums k o d u l n h f g z = rw (f, z) (omega (arith, g, add-mul d o n, zero-mul h))

      lacks : (k o d l u n h : ℕ) → o ≡ d + k → l * h ≡ d * n → u ≡ 0 → u * h + o * n ≡ k * n + l * h
      lacks k o d l u n h f g z = rw (f, z) (omega (arith, g, add-mul d k n, zero-mul h))

-- ---- what such a bound says of a rounded fraction (p - n) / c
unscaled : (u l d ug lg dg h k o : ℕ) → 0 < dg → u * dg + lg * d ≤ ug * d + l * dg → ug * h + o * dg ≡ k * dg + lg * h → h * u + o * d ≤ k * d + h * l
unscaled u l d ug lg dg h k o D a b =
    le_of_mul-le-mul_right {m = h * u + o * d} {n = k * d + h * l} {k = dg}
    (simp (add-mul, mul_assoc, mul_comm, mul_left_comm)
    (omega (
      arith,
      simp (add-mul, mul_assoc, mul_comm, mul_left_comm) at (mul-le-mul_right h a),
      simp (add-mul, mul_assoc, mul_comm, mul_left_comm) at (ap (λ (z : ℕ). z * d) b),
    )))
    D

unscaled_up : (u l d ug lg dg h k o : ℕ) → 0 < dg → ug * d + l * dg ≤ u * dg + lg * d → ug * h + o * dg ≡ k * dg + lg * h → k * d + h * l ≤ h * u + o * d
unscaled_up u l d ug lg dg h k o D a b =
    le_of_mul-le-mul_right {m = k * d + h * l} {n = h * u + o * d} {k = dg}
    (simp (add-mul, mul_assoc, mul_comm, mul_left_comm)
    (omega (
      arith,
      simp (add-mul, mul_assoc, mul_comm, mul_left_comm) at (mul-le-mul_right h a),
      simp (add-mul, mul_assoc, mul_comm, mul_left_comm) at (ap (λ (z : ℕ). z * d) b),
    )))
    D

module _ (v : Float) (p n c e k o i j : ℕ) (C : 0 < c) (E : e ≤ 1074) (K : k < 2 ^ 53) (L : o < 2 ^ 53) (I : i < 2 ^ 53) (J : j < 2 ^ 53)
    (is : Is binary64 v p n c) where
  pub held_of : p * 2 ^ e + o * c ≤ k * c + n * 2 ^ e → i * c + n * 2 ^ e ≤ p * 2 ^ e + j * c → Held (2 ^ e) k o i j v
  held_of a b =
      let g = rounded binary64 k o (2 ^ e) in
      let l = rounded binary64 i j (2 ^ e) in
      let s = parts_is e k o E K L in
      let t = parts_is e i j E I J in
      let under = is_le binary64 v g p n c k o (2 ^ e) C (pow_pos e) a is (inl refl) in
      let over = is_le binary64 l v i j (2 ^ e) p n c (pow_pos e) C b (inl refl) is in
      let f = finite_between l v g t.0 s.0 over under in
      record {
        fine = f;
        above = unscaled (upper v) (lower v) (den v) (upper g) (lower g) (den g) (2 ^ e) k o (den_pos g) (le→parts v g f s.0 under) s.1;
        below = unscaled_up (upper v) (lower v) (den v) (upper l) (lower l) (den l) (2 ^ e) i j (den_pos l) (le→parts l v t.0 f over) t.1;
      }

-- ---- larger bounds, a negated number
pub held_more : (x : Float) (h k o i j k' o' i' j' : ℕ) → k + o' ≤ k' + o → i' + j ≤ i + j' → Held h k o i j x → Held h k' o' i' j' x
held_more x h k o i j k' o' i' j' a b g =
    record {
      fine = g.fine;
      above = omega (arith, g.above, add-mul k o' (den x), add-mul k' o (den x), mul-le-mul_right (den x) a);
      below = omega (arith, g.below, add-mul i' j (den x), add-mul i j' (den x), mul-le-mul_right (den x) b);
    }

held_neg : (x : Float) (h k o i j : ℕ) → Held h k o i j x → Held h j i o k (neg x)
held_neg x h k o i j g =
    let n = neg_upper x in
    record { fine = neg_finite x g.fine; above = rw (n.0, n.1, n.2) (omega (arith, g.below)); below = rw (n.0, n.1, n.2) (omega (arith, g.above)) }

-- ---- sums and differences
is_add : (x y : Float) → T (finite x) → T (finite y)
    → Is binary64 (add binary64 x y) (upper x * den y + upper y * den x) (lower y * den x + lower x * den y) (den x * den y)
is_add x y p q = let n = neg_upper y in rw (add_is binary64 x y, n.0, n.1, n.2) at (is_sub binary64 x (neg y) p (neg_finite y q))

added : (u l d u' l' d' h k o k' o' : ℕ) → h * u + o * d ≤ k * d + h * l → h * u' + o' * d' ≤ k' * d' + h * l'
    → (u * d' + u' * d) * h + (o + o') * (d * d') ≤ (k + k') * (d * d') + (l' * d + l * d') * h
added u l d u' l' d' h k o k' o' a b =
    simp (add-mul, mul_assoc, mul_comm, mul_left_comm)
    (omega (
      arith,
      simp (add-mul, mul_assoc, mul_comm, mul_left_comm) at (mul-le-mul_right d' a),
      simp (add-mul, mul_assoc, mul_comm, mul_left_comm) at (mul-le-mul_right d b),
    ))

module _ (x y : Float) (e k o i j k' o' i' j' : ℕ) (E : e ≤ 1074) (K : k + k' < 2 ^ 53) (L : o + o' < 2 ^ 53) (I : i + i' < 2 ^ 53) (J : j + j' < 2 ^ 53)
    (a : Held (2 ^ e) k o i j x) (b : Held (2 ^ e) k' o' i' j' y) where
  pub held_add : Held (2 ^ e) (k + k') (o + o') (i + i') (j + j') (add binary64 x y)
  held_add =
      held_of _ _ _ _ e _ _ _ _ (mul-pos (den_pos x) (den_pos y)) E K L I J (is_add x y a.fine b.fine)
      (added (upper x) (lower x) (den x) (upper y) (lower y) (den y) (2 ^ e) k o k' o' a.above b.above)
      (omega (arith, added (lower x) (upper x) (den x) (lower y) (upper y) (den y) (2 ^ e) j i j' i' (omega (arith, a.below)) (omega (arith, b.below))))

pub held_sub : (x y : Float) (e k o i j k' o' i' j' : ℕ) → e ≤ 1074 → k + j' < 2 ^ 53 → o + i' < 2 ^ 53 → i + o' < 2 ^ 53 → j + k' < 2 ^ 53
    → Held (2 ^ e) k o i j x → Held (2 ^ e) k' o' i' j' y → Held (2 ^ e) (k + j') (o + i') (i + o') (j + k') (sub binary64 x y)
unfolding sub
held_sub x y e k o i j k' o' i' j' E K L I J a b = held_add x (neg y) e k o i j j' i' o' k' E K L I J a (held_neg y (2 ^ e) k' o' i' j' b)

-- ---- the fractions next to a number that is not below -o / h
module _ (x : Float) (h o : ℕ) (f : T (finite x)) (low : h * lower x ≤ h * upper x + o * den x) where
  pub floor : ℕ
  floor = (h * upper x + o * den x - h * lower x) / den x

  pub held_floor : Held h (floor + 1) o floor o x
  unfolding floor
  held_floor =
      let n = h * upper x + o * den x - h * lower x in
      let q = n / den x in
      record {
        fine = f;
        above = omega (arith, lt-div-mul-add {a = n} {b = den x} (den_pos x), add-mul q 1 (den x));
        below = omega (arith, div-mul-le_self n (den x));
      }

-- ---- a part of a number, from none of it to all
parted : (t d u l c h k : ℕ) → t ≤ d → h * u ≤ k * c + h * l → (t * u + 0 * l) * h ≤ k * (d * c) + (t * l + 0 * u) * h
parted t d u l c h k a b =
    let m = mul-le-mul_right (k * c) a in
    let n = mul-le-mul_right t b in
    simp (add-mul, mul_assoc, mul_comm, mul_left_comm, zero-mul)
    (omega (arith, simp (add-mul, mul_assoc, mul_comm, mul_left_comm) at m, simp (add-mul, mul_assoc, mul_comm, mul_left_comm) at n))

pub held_part : (t x : Float) (e k j : ℕ) → e ≤ 1074 → k < 2 ^ 53 → j < 2 ^ 53 → T (finite t) → lower t ≡ 0 → upper t ≤ den t → Held (2 ^ e) k 0 0 j x
    → Held (2 ^ e) k 0 0 j (mul binary64 t x)
held_part t x e k j E K J f z m g =
    held_of _ _ _ _ e k 0 0 j (mul-pos (den_pos t) (den_pos x)) E K (omega arith) (omega arith) J (is_mul t x f g.fine)
    (rw z (omega (
      arith,
      zero-mul (den t * den x),
      parted (upper t) (den t) (upper x) (lower x) (den x) (2 ^ e) k m (omega (arith, g.above, zero-mul (den x))),
    )))
    (rw z (omega (
      arith,
      zero-mul (den t * den x),
      parted (upper t) (den t) (lower x) (upper x) (den x) (2 ^ e) j m (omega (arith, g.below, zero-mul (den x))),
    )))
