-- The order of f64s, and that differences, sums and products keep it.
use mathlib.Core.Bool.{Bool, true, false}
use mathlib.Core.Logic.{inl, inr}
use mathlib.Core.Path.{◌≡◌, refl, ap, sym, ◌∙◌, subst}
use Prim.Native.Nat.{ℕ, zero, suc, ◌+◌, ◌-◌, ◌*◌, ◌≤◌, ◌<◌}
use native.Mathlib.Nat.{zero-mul, mul-zero, mul_comm, mul_assoc, mul_left_comm, add-mul, mul-add, mul-pos, mul-le-mul_right}
use native.Mathlib.Omega.{arith}
use borrow.Author.Tests.{le-leb, lt-leb}
use lib.Dec.{T}
use lib.IntN.{pos}
use lib.Ieee.{Float, nan, inf, fin, Format, binary64, up, down, round, add, sub, mul, neg, lt, eq, le, fits}
use lib.Ieee.Fits.{down_pos}
use lib.Ieee.Scale.{finite, round_same}
use lib.Ieee.Positive.{den, den_pos}
use Rattle.numbers.proofs.Counts.{round_self}
use Rattle.order.proofs.Signed.{upper, lower, le→parts, parts→le, Is, rounded, is_le, is_sub, round_neg}
use Rattle.order.proofs.Ranges.{le_trans_finite, sub_mono}

-- ---- `le` goes on, on all f64s
pub le_trans : (x y z : Float) → T (le x y) → T (le y z) → T (le x z)
unfolding le lt eq
le_trans nan y z p q = absurd p
le_trans (inf s) nan z p q = absurd p
le_trans (inf true) (inf t) nan p q = absurd q
le_trans (inf true) (fin t n d) nan p q = absurd q
le_trans (inf true) (inf t) (inf true) p q = tt
le_trans (inf true) (inf t) (inf false) p q = tt
le_trans (inf true) (inf t) (fin u k c) p q = tt
le_trans (inf true) (fin t n d) (inf true) p q = tt
le_trans (inf true) (fin t n d) (inf false) p q = tt
le_trans (inf true) (fin t n d) (fin u k c) p q = tt
le_trans (inf false) (inf true) z p q = absurd p
le_trans (inf false) (inf false) z p q = q
le_trans (inf false) (fin t n d) z p q = absurd p
le_trans (fin s m e) nan z p q = absurd p
le_trans (fin s m e) (inf true) z p q = absurd p
le_trans (fin s m e) (inf false) nan p q = absurd q
le_trans (fin s m e) (inf false) (inf true) p q = absurd q
le_trans (fin s m e) (inf false) (inf false) p q = tt
le_trans (fin s m e) (inf false) (fin u k c) p q = absurd q
le_trans (fin s m e) (fin t n d) nan p q = absurd q
le_trans (fin s m e) (fin t n d) (inf true) p q = absurd q
le_trans (fin s m e) (fin t n d) (inf false) p q = tt
le_trans (fin s m e) (fin t n d) (fin u k c) p q = le_trans_finite (fin s m e) (fin t n d) (fin u k c) tt tt tt p q

-- ---- a negated number
pub neg_finite : (x : Float) → T (finite x) → T (finite (neg x))
unfolding neg
neg_finite nan p = absurd p
neg_finite (inf s) p = absurd p
neg_finite (fin s m e) p = tt

pub neg_neg : (x : Float) → neg (neg x) ≡ x
unfolding neg
neg_neg nan = refl
neg_neg (inf true) = refl
neg_neg (inf false) = refl
neg_neg (fin true m e) = refl
neg_neg (fin false m e) = refl

pub neg_upper : (x : Float) → (upper (neg x) ≡ lower x) × (lower (neg x) ≡ upper x) × (den (neg x) ≡ den x)
unfolding neg
neg_upper nan = (refl, refl, refl)
neg_upper (inf true) = (refl, refl, refl)
neg_upper (inf false) = (refl, refl, refl)
neg_upper (fin true m e) = (refl, refl, refl)
neg_upper (fin false m e) = (refl, refl, refl)

pub neg_turns : (x y : Float) → T (finite x) → T (finite y) → T (le x y) → T (le (neg y) (neg x))
neg_turns x y p q h =
    let a = neg_upper x in
    let b = neg_upper y in
    parts→le (neg y) (neg x) (neg_finite y q) (neg_finite x p) (rw (a.0, a.1, a.2, b.0, b.1, b.2) (omega (arith, le→parts x y p q h)))

-- ---- differences and sums
pub sub_turns : (f : Format) (x y z : Float) → T (finite x) → T (finite y) → T (finite z) → T (le x y) → T (le (sub f z y) (sub f z x))
sub_turns f x y z p q r h =
    is_le f _ _ _ _ _ _ _ _ (mul-pos (den_pos z) (den_pos y)) (mul-pos (den_pos z) (den_pos x))
    (cross (upper x) (lower x) (den x) (upper y) (lower y) (den y) (upper z) (lower z) (den z) (le→parts x y p q h))
    (is_sub f z y r q) (is_sub f z x r p)
  where
    cross : (ux lx dx uy ly dy uz lz dz : ℕ) → ux * dy + ly * dx ≤ uy * dx + lx * dy
        → (uz * dy + ly * dz) * (dz * dx) + (ux * dz + lz * dx) * (dz * dy) ≤ (uz * dx + lx * dz) * (dz * dy) + (uy * dz + lz * dy) * (dz * dx)
    cross ux lx dx uy ly dy uz lz dz h =
        let k = mul-le-mul_right (dz * dz) h in
        simp (add-mul, mul-add, mul_assoc, mul_comm, mul_left_comm) (omega (arith, simp (add-mul, mul-add, mul_assoc, mul_comm, mul_left_comm) at k))

pub add_is : (f : Format) (x y : Float) → sub f x (neg y) ≡ add f x y
unfolding sub
add_is f x y = ap (add f x) (neg_neg y)

pub add_left : (f : Format) (x y z : Float) → T (finite x) → T (finite y) → T (finite z) → T (le x y) → T (le (add f x z) (add f y z))
add_left f x y z p q r h = rw (add_is f x z, add_is f y z) at (sub_mono f x y (neg z) p q (neg_finite z r) h)

pub add_right : (f : Format) (x y z : Float) → T (finite x) → T (finite y) → T (finite z) → T (le x y) → T (le (add f z x) (add f z y))
add_right f x y z p q r h = rw (add_is f z x, add_is f z y) at (sub_turns f (neg y) (neg x) z (neg_finite y q) (neg_finite x p) r (neg_turns x y p q h))

-- ---- products
round_zero : (c : ℕ) → 0 < c → round binary64 false 0 c ≡ fin false 0 (pos 0)
round_zero c C = round_same binary64 false 0 c 0 1 C (omega arith) (omega (arith, zero-mul c)) ∙ unfold round in refl

up_rounded : (p c : ℕ) → rounded binary64 p 0 c ≡ round binary64 false (p - 0) c
unfolding rounded
up_rounded p c = rw (le-leb 0 p (omega arith))

down_rounded : (d c : ℕ) → rounded binary64 0 (suc d) c ≡ round binary64 true (suc d - 0) c
unfolding rounded
down_rounded d c = rw (lt-leb (suc d) 0 (omega arith))

pub up_is : (p c : ℕ) → Is binary64 (round binary64 false p c) p 0 c
up_is p c = let k : p ≡ p - 0 = omega arith in inl (ap (λ (z : ℕ). round binary64 false z c) k ∙ sym (up_rounded p c))

pub down_is : (d c : ℕ) → 0 < c → Is binary64 (round binary64 true d c) 0 d c
down_is zero c C = inr (round_neg binary64 0 c ∙ ap neg (round_zero c C) ∙ unfold neg in refl, refl)
down_is (suc d) c C = let k : suc d ≡ suc d - 0 = omega arith in inl (ap (λ (z : ℕ). round binary64 true z c) k ∙ sym (down_rounded d c))

is_as : (v : Float) (p n p' n' c : ℕ) → p ≡ p' → n ≡ n' → Is binary64 v p n c → Is binary64 v p' n' c
is_as v p n p' n' c e g h = rw (e, g) at h

pub is_mul : (x y : Float) → T (finite x) → T (finite y)
    → Is binary64 (mul binary64 x y) (upper x * upper y + lower x * lower y) (upper x * lower y + lower x * upper y) (den x * den y)
unfolding mul
is_mul nan y p q = absurd p
is_mul (inf s) y p q = absurd p
is_mul (fin s m e) nan p q = absurd q
is_mul (fin s m e) (inf t) p q = absurd q
is_mul (fin false m e) (fin false n d) p q =
    is_as _ _ _ _ _ _ (omega arith) (omega (arith, mul-zero (m * up e), zero-mul (n * up d))) (up_is (m * up e * (n * up d)) (down e * down d))
is_mul (fin false m e) (fin true n d) p q =
    is_as _ _ _ _ _ _ (omega (arith, mul-zero (m * up e), zero-mul (n * up d))) (omega arith)
    (down_is (m * up e * (n * up d)) (down e * down d) (mul-pos (down_pos e) (down_pos d)))
is_mul (fin true m e) (fin false n d) p q =
    is_as _ _ _ _ _ _ (omega (arith, mul-zero (m * up e), zero-mul (n * up d))) (omega arith)
    (down_is (m * up e * (n * up d)) (down e * down d) (mul-pos (down_pos e) (down_pos d)))
is_mul (fin true m e) (fin true n d) p q =
    is_as _ _ _ _ _ _ (omega arith) (omega (arith, mul-zero (m * up e), zero-mul (n * up d))) (up_is (m * up e * (n * up d)) (down e * down d))

module _ (x y z : Float) (p : T (finite x)) (q : T (finite y)) (r : T (finite z)) (h : T (le x y)) where
  pub mul_up : lower z ≡ 0 → T (le (mul binary64 x z) (mul binary64 y z))
  mul_up e =
      is_le binary64 _ _ _ _ _ _ _ _ (mul-pos (den_pos x) (den_pos z)) (mul-pos (den_pos y) (den_pos z))
      (cross (upper x) (lower x) (den x) (upper y) (lower y) (den y) (upper z) (lower z) (den z) e (le→parts x y p q h))
      (is_mul x z p r) (is_mul y z q r)
    where
      cross : (ux lx dx uy ly dy uz lz dz : ℕ) → lz ≡ 0 → ux * dy + ly * dx ≤ uy * dx + lx * dy
          → (ux * uz + lx * lz) * (dy * dz) + (uy * lz + ly * uz) * (dx * dz) ≤ (uy * uz + ly * lz) * (dx * dz) + (ux * lz + lx * uz) * (dy * dz)
      cross ux lx dx uy ly dy uz lz dz e h =
          let k = mul-le-mul_right (uz * dz) h in
          rw e
          (simp (add-mul, mul-add, mul_assoc, mul_comm, mul_left_comm, zero-mul, mul-zero)
          (omega (arith, simp (add-mul, mul-add, mul_assoc, mul_comm, mul_left_comm) at k)))

  pub mul_down : upper z ≡ 0 → T (le (mul binary64 y z) (mul binary64 x z))
  mul_down e =
      is_le binary64 _ _ _ _ _ _ _ _ (mul-pos (den_pos y) (den_pos z)) (mul-pos (den_pos x) (den_pos z))
      (cross (upper x) (lower x) (den x) (upper y) (lower y) (den y) (upper z) (lower z) (den z) e (le→parts x y p q h))
      (is_mul y z q r) (is_mul x z p r)
    where
      cross : (ux lx dx uy ly dy uz lz dz : ℕ) → uz ≡ 0 → ux * dy + ly * dx ≤ uy * dx + lx * dy
          → (uy * uz + ly * lz) * (dx * dz) + (ux * lz + lx * uz) * (dy * dz) ≤ (ux * uz + lx * lz) * (dy * dz) + (uy * lz + ly * uz) * (dx * dz)
      cross ux lx dx uy ly dy uz lz dz e h =
          let k = mul-le-mul_right (lz * dz) h in
          rw e
          (simp (add-mul, mul-add, mul_assoc, mul_comm, mul_left_comm, zero-mul, mul-zero)
          (omega (arith, simp (add-mul, mul-add, mul_assoc, mul_comm, mul_left_comm) at k)))

swapped : (b : Bool) (p q c d : ℕ) → round binary64 b (p * q) (c * d) ≡ round binary64 b (q * p) (d * c)
swapped b p q c d = ap (λ (z : ℕ). round binary64 b z (c * d)) (mul_comm p q) ∙ ap (λ (z : ℕ). round binary64 b (q * p) z) (mul_comm c d)

pub mul_swap : (x y : Float) → T (finite x) → T (finite y) → mul binary64 x y ≡ mul binary64 y x
unfolding mul
mul_swap nan y p q = absurd p
mul_swap (inf s) y p q = absurd p
mul_swap (fin s m e) nan p q = absurd q
mul_swap (fin s m e) (inf t) p q = absurd q
mul_swap (fin false m e) (fin false n d) p q = swapped false (m * up e) (n * up d) (down e) (down d)
mul_swap (fin false m e) (fin true n d) p q = swapped true (m * up e) (n * up d) (down e) (down d)
mul_swap (fin true m e) (fin false n d) p q = swapped true (m * up e) (n * up d) (down e) (down d)
mul_swap (fin true m e) (fin true n d) p q = swapped false (m * up e) (n * up d) (down e) (down d)

-- ---- signs
abbrev pub O : Float
O = fin false 0 (pos 0)

pub no_lower : (y : Float) → T (finite y) → T (le O y) → lower y ≡ 0
no_lower nan p h = absurd p
no_lower (inf s) p h = absurd p
no_lower (fin false n d) p h = refl
no_lower (fin true n d) p h = omega (arith, le→parts O (fin true n d) tt tt h, zero-mul (down d))

pub no_upper : (y : Float) → T (finite y) → T (le y O) → upper y ≡ 0
no_upper nan p h = absurd p
no_upper (inf s) p h = absurd p
no_upper (fin true n d) p h = refl
no_upper (fin false n d) p h = omega (arith, le→parts (fin false n d) O tt tt h, zero-mul (down d))

-- ---- squares
module _ (m x : Float) (p : T (finite m)) (q : T (finite x)) where
  pub square_up : T (le O m) → T (le m x) → T (le (mul binary64 m m) (mul binary64 x x))
  square_up g h =
      le_trans (mul binary64 m m) (mul binary64 x m) (mul binary64 x x) (mul_up m x m p q p h (no_lower m p g))
      (rw (mul_swap x m q p) (mul_up m x x p q q h (no_lower x q (le_trans O m x g h))))

  pub square_down : T (le m O) → T (le x m) → T (le (mul binary64 m m) (mul binary64 x x))
  square_down g h =
      le_trans (mul binary64 m m) (mul binary64 x m) (mul binary64 x x) (mul_down x m m q p p h (no_upper m p g))
      (rw (mul_swap x m q p) (mul_down x m x q p q h (no_upper x q (le_trans x m O h g))))

-- ---- a number that fits is its own rounding
pub own : (x : Float) → T (fits binary64 x) → T (finite x) → Is binary64 x (upper x) (lower x) (den x)
own nan g p = absurd p
own (inf s) g p = absurd p
own (fin false m e) g p = subst (λ (v : Float). Is binary64 v (m * up e) 0 (down e)) (round_self false m e g) (up_is (m * up e) (down e))
own (fin true m e) g p = subst (λ (v : Float). Is binary64 v 0 (m * up e) (down e)) (round_self true m e g) (down_is (m * up e) (down e) (down_pos e))
