-- Numbers between whole numbers. A whole number of at most 2 ^ 53 is its own rounding, so a bound that is one holds of what an operation gives as it holds
-- of the exact result.
use mathlib.Core.Bool.{Bool, true, false}
use mathlib.Core.Path.{◌≡◌, refl, sym}
use Prim.Native.Nat.{ℕ, ◌+◌, ◌-◌, ◌*◌, ◌/◌, ◌^◌, ◌≤◌, ◌<◌}
use native.Mathlib.Nat.{zero-mul, mul-zero, mul-one, one-mul, mul_comm, mul_assoc, mul_left_comm, add-mul, mul-add, mul-pos}
use native.Mathlib.Nat.{mul-le-mul_right, le_of_mul-le-mul_right, div-mul-le_self, lt-div-mul-add}
use native.Mathlib.Omega.{arith}
use lib.Dec.{T}
use lib.IntN.{pos}
use lib.Ieee.{Float, nan, inf, fin, binary64, up, down, unlike, round, add, sub, mul, div, neg, lt, le, eq, of_int, of_bits}
use lib.Ieee.Back.{round_whole}
use lib.Ieee.Exact.{HasValue}
use lib.Ieee.Positive.{num, den, den_pos, positive_of_value, value→cross}
use lib.Ieee.Scale.{finite}
use lib.Ieee.Bits.{is_true}
use Rattle.numbers.specs.Reals.{million, abs_of}
use Rattle.rules.proofs.Branches.{no}
use Rattle.order.proofs.Signed.{upper, lower, le→parts, parts→le, Is, is_le, is_sub, is_div}
use Rattle.order.proofs.Ranges.{finite_between, num_pos}
use Rattle.order.proofs.Order.{neg_finite, neg_upper, add_is, up_is, down_is, is_mul}

-- -i <= x <= k
pub record Within (i k : ℕ) (x : Float) : Type 0 where
  pub fine : T (finite x)
  pub above : upper x ≤ k * den x + lower x
  pub below : lower x ≤ i * den x + upper x

-- -k <= x <= k
abbrev pub Bounded : ℕ → Float → Type 0
Bounded k x = Within k k x

-- ---- a rounded fraction (p - n) / c
plus_is : (x : Float) (k : ℕ) → HasValue x false k 1 → T (finite x) × (upper x ≡ k * den x) × (lower x ≡ 0)
plus_is nan k h = absurd h
plus_is (inf s) k h = absurd h
plus_is (fin false m e) k h = (tt, omega (arith, h.1, mul-one (m * up e)), refl)
plus_is (fin true m e) k h = absurd (no (sym h.0))

minus_is : (x : Float) (k : ℕ) → HasValue x true k 1 → T (finite x) × (upper x ≡ 0) × (lower x ≡ k * den x)
minus_is nan k h = absurd h
minus_is (inf s) k h = absurd h
minus_is (fin true m e) k h = (tt, refl, omega (arith, h.1, mul-one (m * up e)))
minus_is (fin false m e) k h = absurd (no h.0)

-- v * w <= (k * d + l) * w
unscaled : (v l d k w : ℕ) → 0 < w → v * w ≤ k * w * d + l * w → v ≤ k * d + l
unscaled v l d k w W h =
    le_of_mul-le-mul_right {m = v} {n = k * d + l} {k = w}
    (simp (add-mul, mul_assoc, mul_comm, mul_left_comm) (omega (arith, simp (mul_assoc, mul_comm, mul_left_comm) at h))) W

module _ (v : Float) (p n c i k : ℕ) (C : 0 < c) (I : i ≤ 2 ^ 53) (K : k ≤ 2 ^ 53) (is : Is binary64 v p n c) where
  under : p ≤ k * c + n → T (le v (round binary64 false k 1))
  under a = is_le binary64 _ _ _ _ _ _ _ _ C (omega arith) (omega (arith, mul-one p, mul-one n, zero-mul c)) is (up_is k 1)

  over : n ≤ i * c + p → T (le (round binary64 true i 1) v)
  over b = is_le binary64 _ _ _ _ _ _ _ _ (omega arith) C (omega (arith, mul-one p, mul-one n, zero-mul c)) (down_is i 1 (omega arith)) is

  pub within_of : p ≤ k * c + n → n ≤ i * c + p → Within i k v
  within_of a b =
      let g = round binary64 false k 1 in
      let h = round binary64 true i 1 in
      let m = plus_is g k (round_whole binary64 false k K) in
      let l = minus_is h i (round_whole binary64 true i I) in
      let f = finite_between h v g l.0 m.0 (over b) (under a) in
      record {
        fine = f;
        above = unscaled (upper v) (lower v) (den v) k (den g) (den_pos g)
            (omega (arith, zero-mul (den v), rw (m.1, m.2) at (le→parts v g f m.0 (under a))));
        below = unscaled (lower v) (upper v) (den v) i (den h) (den_pos h)
            (omega (arith, zero-mul (den v), rw (l.1, l.2) at (le→parts h v l.0 f (over b))));
      }

-- ---- larger bounds, a negated number
pub within_more : (x : Float) (i j i' j' : ℕ) → i ≤ i' → j ≤ j' → Within i j x → Within i' j' x
within_more x i j i' j' g h b =
    record { fine = b.fine; above = omega (arith, mul-le-mul_right (den x) h, b.above); below = omega (arith, mul-le-mul_right (den x) g, b.below) }

bounded_neg : (x : Float) (k : ℕ) → Bounded k x → Bounded k (neg x)
bounded_neg x k b =
    let n = neg_upper x in
    record { fine = neg_finite x b.fine; above = rw (n.0, n.1, n.2) b.below; below = rw (n.0, n.1, n.2) b.above }

-- ---- sums and differences
is_add : (x y : Float) → T (finite x) → T (finite y)
    → Is binary64 (add binary64 x y) (upper x * den y + upper y * den x) (lower y * den x + lower x * den y) (den x * den y)
is_add x y p q = let n = neg_upper y in rw (add_is binary64 x y, n.0, n.1, n.2) at (is_sub binary64 x (neg y) p (neg_finite y q))

added : (ux lx dx uy ly dy j k : ℕ) → ux ≤ j * dx + lx → uy ≤ k * dy + ly → ux * dy + uy * dx ≤ (j + k) * (dx * dy) + (ly * dx + lx * dy)
added ux lx dx uy ly dy j k a b =
    simp (add-mul, mul_assoc, mul_comm, mul_left_comm)
    (omega (
      arith,
      simp (add-mul, mul_assoc, mul_comm, mul_left_comm) at (mul-le-mul_right dy a),
      simp (add-mul, mul_assoc, mul_comm, mul_left_comm) at (mul-le-mul_right dx b),
    ))

module _ (x y : Float) (j k : ℕ) (K : j + k ≤ 2 ^ 53) (a : Bounded j x) (b : Bounded k y) where
  pub bounded_add : Bounded (j + k) (add binary64 x y)
  bounded_add =
      within_of _ _ _ _ _ _ (mul-pos (den_pos x) (den_pos y)) K K (is_add x y a.fine b.fine)
      (added (upper x) (lower x) (den x) (upper y) (lower y) (den y) j k a.above b.above)
      (omega (arith, added (lower x) (upper x) (den x) (lower y) (upper y) (den y) j k a.below b.below))

pub bounded_sub : (x y : Float) (j k : ℕ) → j + k ≤ 2 ^ 53 → Bounded j x → Bounded k y → Bounded (j + k) (sub binary64 x y)
unfolding sub
bounded_sub x y j k K a b = bounded_add x (neg y) j k K a (bounded_neg y k b)

-- ---- products with a whole number and quotients by one
unlike_turns : (s t : Bool) → unlike s t ≡ unlike t s
unlike_turns false false = refl
unlike_turns false true = refl
unlike_turns true false = refl
unlike_turns true true = refl

mul_turns : (x y : Float) → T (finite x) → T (finite y) → mul binary64 x y ≡ mul binary64 y x
unfolding mul
mul_turns nan y p q = absurd p
mul_turns (inf s) y p q = absurd p
mul_turns (fin s m e) nan p q = absurd q
mul_turns (fin s m e) (inf t) p q = absurd q
mul_turns (fin s m e) (fin t n d) p q = rw (unlike_turns s t, mul_comm (m * up e) (n * up d), mul_comm (down e) (down d))

multiplied : (u l d j m w : ℕ) → u ≤ j * d + l → u * (m * w) + l * 0 ≤ j * m * (d * w) + (u * 0 + l * (m * w))
multiplied u l d j m w a =
    let h : u * (m * w) ≤ (j * d + l) * (m * w) = mul-le-mul_right (m * w) a in
    omega (arith, mul-zero u, mul-zero l, h, add-mul (j * d) l (m * w), scaled)
  where
    scaled : j * d * (m * w) ≡ j * m * (d * w)
    scaled = simp (mul_assoc, mul_comm, mul_left_comm)

divided : (u l d j i n ny dy : ℕ) → ny * 1 ≡ n * dy → j ≤ i * n → u ≤ j * d + l → u * dy ≤ i * (ny * d) + l * dy
divided u l d j i n ny dy e h a =
    let m : ny ≡ n * dy = omega (arith, mul-one ny) in
    let g : j * (d * dy) ≤ i * n * (d * dy) = mul-le-mul_right (d * dy) h in
    rw m
    (simp (add-mul, mul_assoc, mul_comm, mul_left_comm)
    (omega (arith, simp (mul_assoc, mul_comm, mul_left_comm) at g, simp (add-mul, mul_assoc, mul_comm, mul_left_comm) at (mul-le-mul_right dy a))))

module _ (x : Float) (i j n : ℕ) (N : n ≤ 2 ^ 53) (b : Within i j x) where
  abbrev y : Float
  y = of_int binary64 (pos n)

  value : HasValue y false n 1
  unfolding of_int
  value = round_whole binary64 false n N

  module _ (I : i * n ≤ 2 ^ 53) (J : j * n ≤ 2 ^ 53) where
    pub within_mul : Within (i * n) (j * n) (mul binary64 x y)
    within_mul =
        let w = plus_is y n value in
        within_of _ _ _ _ _ _ (mul-pos (den_pos x) (den_pos y)) I J (is_mul x y b.fine w.0)
        (rw (w.1, w.2) (multiplied (upper x) (lower x) (den x) j n (den y) b.above))
        (rw (w.1, w.2) (omega (arith, multiplied (lower x) (upper x) (den x) i n (den y) b.below)))

    pub within_times : Within (i * n) (j * n) (mul binary64 y x)
    within_times = rw (mul_turns y x (plus_is y n value).0 b.fine) within_mul

  pub within_div : (i' j' : ℕ) → 0 < n → i' ≤ 2 ^ 53 → j' ≤ 2 ^ 53 → i ≤ i' * n → j ≤ j' * n → Within i' j' (div binary64 x y)
  within_div i' j' h I J l m =
      let some = positive_of_value y n 1 value h in
      within_of _ _ _ _ _ _ (mul-pos (num_pos y some) (den_pos x)) I J (is_div binary64 x y b.fine some)
      (divided (upper x) (lower x) (den x) j j' n (num y) (den y) (value→cross y n 1 value) m b.above)
      (divided (lower x) (upper x) (den x) i i' n (num y) (den y) (value→cross y n 1 value) l b.below)

-- ---- from a to b, both within k: the way b - a lies between two whole numbers of which one is 1, and what goes no further lies within k but for that 1
far : ℕ → ℕ → ℕ → ℕ
far p n c = (p - n) / c + 1

far_high : (p n c : ℕ) → 0 < c → p ≤ far p n c * c + n
unfolding far
far_high p n c C = let q = (p - n) / c in omega (arith, lt-div-mul-add {a = p - n} {b = c} C, add-mul q 1 c, one-mul c)

far_few : (p n c k : ℕ) → 0 < c → p ≤ k * c + n → far p n c ≤ k + 1
unfolding far
far_few p n c k C h =
    let q = (p - n) / c in omega (arith, le_of_mul-le-mul_right {m = q} {n = k} {k = c} (omega (arith, h, div-mul-le_self (p - n) c)) C)

module _ (ua la da ub lb db k p n : ℕ) (D : 0 < db) (P : p ≡ ub * da + la * db) (N : n ≡ ua * db + lb * da) (a : ua ≤ k * da + la) (b : ub ≤ k * db + lb) where
  landed : ua + far p n (db * da) * da ≤ (k + 1) * da + la
  unfolding far
  landed =
      let c = db * da in
      let q = (p - n) / c in
      le_of_mul-le-mul_right {m = ua + (q + 1) * da} {n = (k + 1) * da + la} {k = db}
      (omega (
        arith,
        P,
        N,
        div-mul-le_self (p - n) c,
        left q,
        right,
        add-mul (k * da) la db,
        mul-le-mul_right db a,
        add-mul (k * db) lb da,
        mul-le-mul_right da b,
        swapped,
        turned,
      ))
      D
    where
      left : (q : ℕ) → (ua + (q + 1) * da) * db ≡ ua * db + (q * (db * da) + db * da)
      left q = simp (add-mul, one-mul, mul_assoc, mul_comm, mul_left_comm)

      right : ((k + 1) * da + la) * db ≡ k * (db * da) + db * da + la * db
      right = simp (add-mul, one-mul, mul_assoc, mul_comm, mul_left_comm)

      swapped : k * da * db ≡ k * (db * da)
      swapped = simp (mul_assoc, mul_comm, mul_left_comm)

      turned : k * db * da ≡ k * (db * da)
      turned = mul_assoc k db da

  going : (ut lt dt j : ℕ) → ut ≤ (far p n (db * da) + j) * dt + lt → ua * dt + ut * da ≤ (k + j + 1) * (da * dt) + (lt * da + la * dt)
  going ut lt dt j h =
      let w = far p n (db * da) in
      simp (add-mul, mul-add, mul_assoc, mul_comm, mul_left_comm, one-mul, mul-one)
      (omega (
        arith,
        simp (add-mul, mul_assoc, mul_comm, mul_left_comm, one-mul) at (mul-le-mul_right da h),
        simp (add-mul, mul_assoc, mul_comm, mul_left_comm, one-mul) at (mul-le-mul_right dt landed),
      ))

module _ (a b : Float) (k : ℕ) (A : Bounded k a) (B : Bounded k b) where
  abbrev more : ℕ
  more = upper b * den a + lower a * den b

  abbrev less : ℕ
  less = upper a * den b + lower b * den a

  C : 0 < den b * den a
  C = mul-pos (den_pos b) (den_pos a)

  pub ahead : ℕ
  ahead = far more less (den b * den a)

  pub back : ℕ
  back = far less more (den b * den a)

  pub ahead_few : ahead ≤ k + k + 1
  unfolding ahead
  ahead_few = far_few _ _ _ (k + k) C (added (upper b) (lower b) (den b) (lower a) (upper a) (den a) k k B.above A.below)

  pub back_few : back ≤ k + k + 1
  unfolding back
  back_few = far_few _ _ _ (k + k) C (omega (arith, added (lower b) (upper b) (den b) (upper a) (lower a) (den a) k k B.below A.above))

  pub width_within : k + k + 1 ≤ 2 ^ 53 → Within back ahead (sub binary64 b a)
  width_within K =
      within_of _ _ _ _ _ _ C (omega (arith, back_few)) (omega (arith, ahead_few)) (is_sub binary64 b a B.fine A.fine)
      (unfold ahead in far_high more less _ C) (unfold back in far_high less more _ C)

  pub further : (t : Float) (j : ℕ) → k + j + 1 ≤ 2 ^ 53 → Within (back + j) (ahead + j) t → Bounded (k + j + 1) (add binary64 a t)
  unfolding ahead back
  further t j K u =
      within_of _ _ _ _ _ _ (mul-pos (den_pos a) (den_pos t)) K K (is_add a t A.fine u.fine)
      (going (upper a) (lower a) (den a) (upper b) (lower b) (den b) k more less (den_pos b) (omega arith) (omega arith) A.above B.above
      (upper t) (lower t) (den t) j u.above)
      (omega (
        arith,
        going (lower a) (upper a) (den a) (lower b) (upper b) (den b) k less more (den_pos b) (omega arith) (omega arith) A.below B.below
            (lower t) (upper t) (den t) j u.below,
      ))

-- ---- what the test of a magnitude says
not_inf : (b : Float) (k : ℕ) → HasValue b false k 1 → le (inf false) b ≡ true → ⊥
unfolding le lt eq
not_inf nan k v e = absurd v
not_inf (inf s) k v e = absurd v
not_inf (fin s m c) k v e = no e

pub sized : (x b : Float) (k : ℕ) → T (finite x) → lower x ≡ 0 → HasValue b false k 1 → T (le x b) → upper x ≤ k * den x + 0
sized x b k f z v h =
    let p = plus_is b k v in
    unscaled (upper x) 0 (den x) k (den b) (den_pos b) (omega (arith, zero-mul (den x), zero-mul (den b), rw (p.1, p.2, z) at (le→parts x b f p.0 h)))

pub size_bounded : (x b : Float) (k : ℕ) → HasValue b false k 1 → le (abs_of x) b ≡ true → Bounded k x
unfolding abs_of
size_bounded nan b k v e = absurd (no (unfold le lt eq in e))
size_bounded (inf s) b k v e = absurd (not_inf b k v e)
size_bounded (fin false m c) b k v e = let h = sized (fin false m c) b k tt refl v (rw e tt) in record { fine = tt; above = h; below = omega arith }
size_bounded (fin true m c) b k v e = let h = sized (fin false m c) b k tt refl v (rw e tt) in record { fine = tt; above = omega arith; below = h }

within : (x b : Float) (k : ℕ) → T (finite x) → lower x ≡ 0 → HasValue b false k 1 → upper x ≤ k * den x + 0 → le x b ≡ true
within x b k f z v h =
    let p = plus_is b k v in
    let m : upper x ≤ k * den x = omega arith in
    is_true (le x b)
    (parts→le x b f p.0
    (rw (p.1, p.2, z)
    (omega (
      arith,
      zero-mul (den x),
      zero-mul (den b),
      simp (mul_assoc, mul_comm, mul_left_comm) at (mul-le-mul_right (den b) m),
      mul_assoc k (den b) (den x),
      mul_comm (den x) (den b),
    ))))

pub bounded_size : (x b : Float) (k : ℕ) → HasValue b false k 1 → Bounded k x → le (abs_of x) b ≡ true
unfolding abs_of
bounded_size nan b k v c = absurd c.fine
bounded_size (inf s) b k v c = absurd c.fine
bounded_size (fin false m e) b k v c = within (fin false m e) b k tt refl v c.above
bounded_size (fin true m e) b k v c = within (fin false m e) b k tt refl v c.below

pub million_value : HasValue million false 1000000 1
unfolding of_bits
million_value = (refl, refl)
