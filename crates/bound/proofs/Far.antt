-- A distance beyond w by its squares: where it is at most w, the exact root is at most w and half of a last digit more, and the sum of the squares, each
-- operation rounded, is below w * w * (1 + 2 ^ -49), rounded too. Squares, sum, the square of w and the product go at most a part in 2 ^ 52 each the wrong way,
-- and the half digit, squared, two: six, where 2 ^ -49 is eight.
use mathlib.Core.Bool.{Bool, true, false, not}
use mathlib.Core.Logic.{◌⊎◌, inl, inr}
use mathlib.Core.Path.{◌≡◌, refl, sym, ap, ◌∙◌, subst}
use Prim.Native.Nat.{ℕ, ◌+◌, ◌-◌, ◌*◌, ◌^◌, ◌≤◌, ◌<◌}
use native.Mathlib.Nat.{mul_assoc, mul_comm, mul_left_comm, mul-one, zero-mul, add-mul, mul-pos, mul-le-mul, mul-le-mul_right}
use native.Mathlib.Nat.{le_trans, le_of_eq, le_of_mul-le-mul_right, le_of_mul-le-mul_left, mul-mul-mul_comm}
use native.Mathlib.Omega.{arith}
use lib.Dec.{T, leb, leb→le, nleb→lt, lit<, lit≤}
use lib.IntN.{negsuc}
use lib.Pow.{pow_pos}
use lib.Ieee.{Float, nan, inf, fin, binary64, up, down, round, mul, div, neg, lt, le, eq, fits, is_nan, of_bits}
use lib.Ieee.Exact.{HasValue}
use lib.Ieee.Scale.{finite, grid, round_val, round_under}
use Rattle.numbers.specs.Reals.{◌⊕◌, ◌⊗◌, ◌⊘◌, f0, abs_of}
use Rattle.roots.specs.Hypot.{infinite, count_of, hypot_of}
use Rattle.rules.proofs.Branches.{no, holds}
use Rattle.roots.proofs.Distances.{hypot_least, hypot_between}
use Rattle.roots.proofs.Packing.{count_of_value}
use Rattle.roots.proofs.Scales.{square_power}
use Rattle.numbers.proofs.Signs.{under_of_le}
use Rattle.roots.proofs.Squares.{square_twice}
use Rattle.plane.specs.Ranges.{is_radius}
use Rattle.order.proofs.Signed.{parts→le}
use Rattle.order.proofs.Ranges.{finite_between}
use Rattle.bound.specs.Inside.{Beyond}
use Rattle.order.proofs.Order.{O, le_trans as le_on, mul_up, neg_turns}
use Rattle.bound.proofs.Small.{M, Small, small_finite, small_up, small_radius, square_small, square_limit, square_finite, square_nonneg, sum_finite}
use Rattle.order.proofs.Rounded.{not_less, not_more}
use Rattle.bound.proofs.Near.{least, least_bits, least_is, plus, square_value, square_more, squared, sum_is, product_is}

-- ---- a distance of at most w is that of numbers of at most w
both_fine : (x y w : Float) → T (finite w) → T (le (hypot_of x y) w) → T (finite x) × T (finite y)
unfolding hypot_of infinite is_nan le lt eq
both_fine x y nan p h = absurd p
both_fine x y (inf s) p h = absurd p
both_fine nan nan (fin u k c) p h = absurd h
both_fine nan (inf t) (fin u k c) p h = absurd h
both_fine nan (fin t n d) (fin u k c) p h = absurd h
both_fine (inf s) y (fin u k c) p h = absurd h
both_fine (fin s m e) nan (fin u k c) p h = absurd h
both_fine (fin s m e) (inf t) (fin u k c) p h = absurd h
both_fine (fin s m e) (fin t n d) (fin u k c) p h = (tt, tt)

abs_small : (x : Float) → T (le (abs_of x) M) → Small x
unfolding abs_of
abs_small nan h = absurd (unfold le lt eq in h)
abs_small (inf s) h = absurd (unfold le lt eq in h)
abs_small (fin false m e) h = small_up (fin false m e) (parts→le O (fin false m e) tt tt (omega (arith, zero-mul (down e)))) h
abs_small (fin true m e) h =
    record {
      low = unfold neg in neg_turns (fin false m e) M tt tt h;
      high =
          le_on (fin true m e) O M (parts→le (fin true m e) O tt tt (omega (arith, zero-mul (down e)))) (unfold le in tt);
    }

-- ---- half a digit: the squares of such a distance, counted in smallest f64s
half_digit : (q k w : ℕ) → (k ≡ 0) ⊎ (2 ^ 52 ≤ q) → 2 ^ 52 ≤ w → q * 2 ^ k ≤ w → 2 ^ 52 * ((2 * q + 1) * 2 ^ k) ≤ (2 ^ 52 + 1) * (2 * w)
half_digit q k w (inl e) l h =
    let a : (2 * q + 1) * 2 ^ k ≡ 2 * q + 1 = ap (λ (z : ℕ). (2 * q + 1) * 2 ^ z) e ∙ mul-one (2 * q + 1) in
    let b : q * 2 ^ k ≡ q = ap (λ (z : ℕ). q * 2 ^ z) e ∙ mul-one q in
    go ((2 * q + 1) * 2 ^ k) q w a (le_trans (le_of_eq (sym b)) h) l
  where
    go : (u q w : ℕ) → u ≡ 2 * q + 1 → q ≤ w → 2 ^ 52 ≤ w → 2 ^ 52 * u ≤ (2 ^ 52 + 1) * (2 * w)
    go u q w e h l = omega arith
half_digit q k w (inr e) l h =
    go ((2 * q + 1) * 2 ^ k) (q * 2 ^ k) (2 ^ k) w (add-mul (2 * q) 1 (2 ^ k) ∙ ap (λ (z : ℕ). z + 1 * 2 ^ k) (mul_assoc 2 q (2 ^ k)))
    (mul-le-mul_right (2 ^ k) e) h
  where
    go : (u v t w : ℕ) → u ≡ 2 * v + 1 * t → 2 ^ 52 * t ≤ v → v ≤ w → 2 ^ 52 * u ≤ (2 ^ 52 + 1) * (2 * w)
    go u v t w e h l = omega arith

squares_half : (n u w : ℕ) → 4 * n ≤ u * u → 2 ^ 52 * u ≤ (2 ^ 52 + 1) * (2 * w) → 2 ^ 104 * n ≤ (2 ^ 52 + 1) * (2 ^ 52 + 1) * (w * w)
squares_half n u w h k =
    let a : 2 ^ 52 * u * (2 ^ 52 * u) ≡ 2 ^ 104 * (u * u) = mul-mul-mul_comm (2 ^ 52) u (2 ^ 52) u in
    let c : (2 ^ 52 + 1) * (2 * w) * ((2 ^ 52 + 1) * (2 * w)) ≡ (2 ^ 52 + 1) * (2 ^ 52 + 1) * (2 * w * (2 * w)) =
    mul-mul-mul_comm (2 ^ 52 + 1) (2 * w) (2 ^ 52 + 1) (2 * w) in
    go n (u * u) (2 ^ 52 * u * (2 ^ 52 * u)) (2 * w * (2 * w)) ((2 ^ 52 + 1) * (2 * w) * ((2 ^ 52 + 1) * (2 * w))) (w * w) h a
    (mul-le-mul k k) c (square_twice w)
  where
    go : (n s p r q v : ℕ) → 4 * n ≤ s → p ≡ 2 ^ 104 * s → p ≤ q → q ≡ (2 ^ 52 + 1) * (2 ^ 52 + 1) * r → r ≡ 4 * v
        → 2 ^ 104 * n ≤ (2 ^ 52 + 1) * (2 ^ 52 + 1) * v
    go n s p r q v h a k c d = omega arith

not_inf : (z w : Float) → T (finite w) → z ≡ inf false → T (le z w) → ⊥
unfolding le lt eq
not_inf z nan p e h = absurd p
not_inf z (inf s) p e h = absurd p
not_inf z (fin s m c) p e h = subst (λ (v : Float). T (le v (fin s m c))) e h

count_abs : (x : Float) (p : ℕ) → HasValue (abs_of x) false p (2 ^ 1074) → p ≡ count_of x
unfolding abs_of count_of
count_abs nan p h = absurd h
count_abs (inf s) p h = absurd h
count_abs (fin s m e) p h = sym (count_of_value (fin false m e) false p h)

half : (x y w : Float) → T (fits binary64 x) → T (fits binary64 y) → T (fits binary64 w) → T (finite x) → T (finite y) → T (finite w)
    → T (le least w) → T (le (hypot_of x y) w)
    → 2 ^ 104 * (count_of x * count_of x + count_of y * count_of y) ≤ (2 ^ 52 + 1) * (2 ^ 52 + 1) * (count_of w * count_of w)
half x y w f g t p q r l h =
    let b = hypot_between x y f g p q in
    let v = plus w t r l in
    let under : b.q * 2 ^ b.k ≤ count_of w =
    go (leb (2 ^ 2098) (b.q * 2 ^ b.k))
    (λ k. absurd (not_inf (hypot_of x y) w r (b.beyond (leb→le (2 ^ 2098) (b.q * 2 ^ b.k) k)) h))
    (λ k. le_of_mul-le-mul_right (under_of_le (hypot_of x y) w false (b.q * 2 ^ b.k) (2 ^ 1074) false (count_of w) (2 ^ 1074) (pow_pos 1074) (pow_pos 1074)
    (b.value (nleb→lt (2 ^ 2098) (b.q * 2 ^ b.k) k)) v.0 h) (pow_pos 1074)) in
    let u = (2 * b.q + 1) * 2 ^ b.k in
    let n = squares_half (b.p * b.p + b.r * b.r) u (count_of w) (le_trans b.nearest.below (le_of_eq (sym (square_power (2 * b.q + 1) b.k))))
    (half_digit b.q b.k (count_of w) b.digits (le_trans (lit≤ tt) v.1) under) in
    subst (λ (z : ℕ). 2 ^ 104 * (z * z + count_of y * count_of y) ≤ (2 ^ 52 + 1) * (2 ^ 52 + 1) * (count_of w * count_of w)) (count_abs x b.p b.first)
    (subst (λ (z : ℕ). 2 ^ 104 * (b.p * b.p + z * z) ≤ (2 ^ 52 + 1) * (2 ^ 52 + 1) * (count_of w * count_of w)) (count_abs y b.r b.second) n)
  where
    go : {P : Type 0} (c : Bool) → (T c → P) → (T (not c) → P) → P
    go true a b = a tt
    go false a b = b tt

-- ---- the operations: what a square and a sum are at most
record Most (x : Float) : Type 0 where
  pub g : ℕ
  pub value : HasValue (x ⊗ x) false g (2 ^ 1074)
  pub more : 2 ^ 52 * (g * 2 ^ 1074) ≤ (2 ^ 52 + 1) * (count_of x * count_of x) + 2 ^ 52 * 2 ^ 1074

most : (x : Float) → T (fits binary64 x) → T (finite x) → T (finite (x ⊗ x)) → Most x
most nan t p q = absurd p
most (inf s) t p q = absurd p
most (fin s m e) t p q = record { g = grid binary64 (m * up e * (m * up e)) (down e * down e); value = square_value s m e q; more = square_more s m e t }

record SumMost (p q : Float) (a b : ℕ) : Type 0 where
  pub s : ℕ
  pub value : HasValue (p ⊕ q) false s (2 ^ 1074)
  pub more : 2 ^ 52 * s ≤ (2 ^ 52 + 1) * (a + b) + 2 ^ 52

unscaled : (s c t : ℕ) → 0 < t → 2 ^ 52 * (s * t) ≤ (2 ^ 52 + 1) * (c * t) + 2 ^ 52 * t → 2 ^ 52 * s ≤ (2 ^ 52 + 1) * c + 2 ^ 52
unscaled s c t p h =
    le_of_mul-le-mul_right {k = t}
    (le_trans (le_of_eq (mul_assoc (2 ^ 52) s t))
    (le_trans h (le_of_eq (ap (λ (z : ℕ). z + 2 ^ 52 * t) (sym (mul_assoc (2 ^ 52 + 1) c t)) ∙ sym (add-mul ((2 ^ 52 + 1) * c) (2 ^ 52) t))))) p

sum_most : (p q : Float) (a b : ℕ) → HasValue p false a (2 ^ 1074) → HasValue q false b (2 ^ 1074) → T (finite (p ⊕ q)) → SumMost p q a b
sum_most nan q a b h k f = absurd h
sum_most (inf s) q a b h k f = absurd h
sum_most (fin s m e) nan a b h k f = absurd k
sum_most (fin s m e) (inf t) a b h k f = absurd k
sum_most (fin s m e) (fin t n d) a b h k f =
    let r : fin s m e ⊕ fin t n d ≡ round binary64 false (a + b) (2 ^ 1074) = ap (λ (z : Bool). fin z m e ⊕ fin t n d) h.0
    ∙ ap (λ (z : Bool). fin false m e ⊕ fin z n d) k.0 ∙ sum_is m e n d a b h.1 k.1 in
    let g = grid binary64 (a + b) (2 ^ 1074) in
    record {
      s = g;
      value = subst (λ (z : Float). HasValue z false g (2 ^ 1074)) (sym r)
          (round_val binary64 (a + b) (2 ^ 1074) (round_under binary64 (a + b) (2 ^ 1074) (subst (λ (z : Float). T (finite z)) r f)));
      more = unscaled g (a + b) (2 ^ 1074) (pow_pos 1074) (not_more (a + b) (2 ^ 1074) (pow_pos 1074));
    }

-- ---- w * w * (1 + 2 ^ -49)
abbrev pub barely_more : Float
barely_more = fin false (2 ^ 49 + 1) (negsuc 48)

abbrev pub barely_bits : Float
barely_bits = of_bits binary64 0x3ff0_0000_0000_0008

barely_is : barely_bits ≡ barely_more
unfolding of_bits
barely_is = refl

record Rim (w : Float) : Type 0 where
  pub f : ℕ
  pub g : ℕ
  pub value : HasValue (w ⊗ w ⊗ barely_more) false f (2 ^ 1074)
  pub square : (2 ^ 52 - 1) * (count_of w * count_of w) ≤ 2 ^ 52 * ((g + 1) * 2 ^ 1074)
  pub product : (2 ^ 52 - 1) * (2 ^ 49 + 1) * g ≤ 2 ^ 101 * (f + 1)

rim : (w : Float) → T (finite w) → T (finite (w ⊗ w)) → T (finite (w ⊗ w ⊗ barely_more)) → Rim w
rim w p q r =
    let a = squared w p q in
    let g = a.g in
    let x : w ⊗ w ⊗ barely_more ≡ round binary64 false (g * (2 ^ 49 + 1)) (2 ^ 1074 * 2 ^ 49) = product_is (w ⊗ w) g (2 ^ 49 + 1) (negsuc 48) a.value in
    let f = grid binary64 (g * (2 ^ 49 + 1)) (2 ^ 1074 * 2 ^ 49) in
    record {
      f = f;
      g = g;
      value = subst (λ (z : Float). HasValue z false f (2 ^ 1074)) (sym x)
          (round_val binary64 _ _ (round_under binary64 _ _ (subst (λ (z : Float). T (finite z)) x r)));
      square = a.less;
      product = down_product f g (2 ^ 1074) (pow_pos 1074) (not_less (g * (2 ^ 49 + 1)) (2 ^ 1074 * 2 ^ 49) (mul-pos (pow_pos 1074) (pow_pos 49)));
    }
  where
    down_product : (f g t : ℕ) → 0 < t → (2 ^ 52 - 1) * (g * (2 ^ 49 + 1) * t) ≤ 2 ^ 52 * ((f + 1) * (t * 2 ^ 49))
        → (2 ^ 52 - 1) * (2 ^ 49 + 1) * g ≤ 2 ^ 101 * (f + 1)
    down_product f g t p h =
        let a : (2 ^ 52 - 1) * (g * (2 ^ 49 + 1) * t) ≡ (2 ^ 52 - 1) * (2 ^ 49 + 1) * g * t = simp (mul_assoc, mul_comm, mul_left_comm) in
        let b : 2 ^ 52 * ((f + 1) * (t * 2 ^ 49)) ≡ 2 ^ 101 * (f + 1) * t = simp (mul_assoc, mul_comm, mul_left_comm) in
        le_of_mul-le-mul_right {k = t} (le_trans (le_of_eq (sym a)) (le_trans h (le_of_eq b))) p

-- ---- the same in parts of 2 ^ 54, which leave room for the smallest f64s
coarse : (k u m n v x y : ℕ) → 0 < k → k * u ≤ m → n ≤ k * v → m * x ≤ n * y → u * x ≤ v * y
coarse k u m n v x y p h l e =
    le_of_mul-le-mul_left {k = k} (le_trans (le_of_eq (sym (mul_assoc k u x)))
    (le_trans (mul-le-mul_right x h) (le_trans e (le_trans (mul-le-mul_right y l) (le_of_eq (mul_assoc k v y)))))) p

exact : (n w : ℕ) → 2 ^ 104 * n ≤ (2 ^ 52 + 1) * (2 ^ 52 + 1) * w → 2 ^ 54 * n ≤ 2 ^ 54 * w + 9 * w
exact n w h =
    le_trans (coarse (2 ^ 50) (2 ^ 54) (2 ^ 104) ((2 ^ 52 + 1) * (2 ^ 52 + 1)) (2 ^ 54 + 9) n w (lit< tt) (lit≤ tt) (lit≤ tt) h)
    (le_of_eq (add-mul (2 ^ 54) 9 w))

rounded_up : (c n t w j : ℕ) → 2 ^ 52 * c ≤ (2 ^ 52 + 1) * n + 2 ^ 53 * t → 2 ^ 54 * n ≤ 2 ^ 54 * w + j → j ≤ 14 * w → 2 ^ 60 * t ≤ w
    → 2 ^ 54 * c ≤ 2 ^ 54 * w + (j + 5 * w)
rounded_up c n t w j h k l m = go (2 ^ 54 * c) (2 ^ 54 * n) n (2 ^ 55 * t) (2 ^ 54 * w) w j (fourfold c n t h) k (few n w j k l) (tiny t w m)
  where
    go : (c n' n t w' w j : ℕ) → c ≤ n' + 4 * n + t → n' ≤ w' + j → 8 * n ≤ 9 * w → 32 * t ≤ w → c ≤ w' + (j + 5 * w)
    go c n' n t w' w j h k l m = omega arith

    fourfold : (c n t : ℕ) → 2 ^ 52 * c ≤ (2 ^ 52 + 1) * n + 2 ^ 53 * t → 2 ^ 54 * c ≤ 2 ^ 54 * n + 4 * n + 2 ^ 55 * t
    fourfold c n t h = omega arith

    few : (n w j : ℕ) → 2 ^ 54 * n ≤ 2 ^ 54 * w + j → j ≤ 14 * w → 8 * n ≤ 9 * w
    few n w j h k = omega arith

    tiny : (t w : ℕ) → 2 ^ 60 * t ≤ w → 32 * (2 ^ 55 * t) ≤ w
    tiny t w h = omega arith

squared_up : (x y a b t w : ℕ) → 2 ^ 52 * a ≤ (2 ^ 52 + 1) * x + 2 ^ 52 * t → 2 ^ 52 * b ≤ (2 ^ 52 + 1) * y + 2 ^ 52 * t
    → 2 ^ 54 * (x + y) ≤ 2 ^ 54 * w + 9 * w → 2 ^ 60 * t ≤ w
    → 2 ^ 54 * (a + b) ≤ 2 ^ 54 * w + 14 * w
squared_up x y a b t w h k l m =
    le_trans (rounded_up (a + b) (x + y) t w (9 * w) (both x y a b t h k) l (omega arith) m) (le_of_eq (ap (λ (z : ℕ). 2 ^ 54 * w + z) (sym (add-mul 9 5 w))))
  where
    both : (x y a b t : ℕ) → 2 ^ 52 * a ≤ (2 ^ 52 + 1) * x + 2 ^ 52 * t → 2 ^ 52 * b ≤ (2 ^ 52 + 1) * y + 2 ^ 52 * t
        → 2 ^ 52 * (a + b) ≤ (2 ^ 52 + 1) * (x + y) + 2 ^ 53 * t
    both x y a b t h k = omega arith

summed_up : (c s t w : ℕ) → 2 ^ 52 * s ≤ (2 ^ 52 + 1) * c + 2 ^ 52 * t → 2 ^ 54 * c ≤ 2 ^ 54 * w + 14 * w → 2 ^ 60 * t ≤ w → 2 ^ 54 * s ≤ 2 ^ 54 * w + 19 * w
summed_up c s t w h k l =
    le_trans (rounded_up s c t w (14 * w) (twice c s t h) k (omega arith) l) (le_of_eq (ap (λ (z : ℕ). 2 ^ 54 * w + z) (sym (add-mul 14 5 w))))
  where
    twice : (c s t : ℕ) → 2 ^ 52 * s ≤ (2 ^ 52 + 1) * c + 2 ^ 52 * t → 2 ^ 52 * s ≤ (2 ^ 52 + 1) * c + 2 ^ 53 * t
    twice c s t h = omega arith

square_down : (g t w : ℕ) → (2 ^ 52 - 1) * w ≤ 2 ^ 52 * (g + 1 * t) → 2 ^ 60 * t ≤ w → (2 ^ 54 - 5) * w ≤ 2 ^ 54 * g
square_down g t w h k = omega arith

coarser : (f g : ℕ) → (2 ^ 52 - 1) * (2 ^ 49 + 1) * g ≤ 2 ^ 101 * f → (2 ^ 54 + 27) * g ≤ 2 ^ 54 * f
coarser f g h = coarse (2 ^ 47) (2 ^ 54 + 27) ((2 ^ 52 - 1) * (2 ^ 49 + 1)) (2 ^ 101) (2 ^ 54) g f (lit< tt) (lit≤ tt) (lit≤ tt) h

risen : (f g t w : ℕ) → (2 ^ 54 + 27) * g ≤ 2 ^ 54 * (f + 1 * t) → (2 ^ 54 - 5) * w ≤ 2 ^ 54 * g → 2 ^ 60 * t ≤ w → (2 ^ 54 + 21) * w ≤ 2 ^ 54 * f
risen f g t w h k l = omega arith

product_down : (f g t w : ℕ) → (2 ^ 52 - 1) * (2 ^ 49 + 1) * g ≤ 2 ^ 101 * (f + 1 * t) → (2 ^ 54 - 5) * w ≤ 2 ^ 54 * g → 2 ^ 60 * t ≤ w
    → (2 ^ 54 + 21) * w ≤ 2 ^ 54 * f
product_down f g t w h k l = risen f g t w (coarser (f + 1 * t) g h) k l

apart : (f s t w : ℕ) → (2 ^ 54 + 21) * w ≤ 2 ^ 54 * f → f ≤ s → 2 ^ 54 * s ≤ 2 ^ 54 * w + 19 * w → 2 ^ 60 * t ≤ w → 0 < t → ⊥
apart f s t w h k l m p = omega arith

-- ---- all together: x, y and w are squares, t what one smallest f64 counts in them
beyond_squares : (x y w a b s f g t : ℕ) → 2 ^ 52 * (a * t) ≤ (2 ^ 52 + 1) * x + 2 ^ 52 * t → 2 ^ 52 * (b * t) ≤ (2 ^ 52 + 1) * y + 2 ^ 52 * t
    → 2 ^ 52 * s ≤ (2 ^ 52 + 1) * (a + b) + 2 ^ 52 → f ≤ s
    → (2 ^ 52 - 1) * (2 ^ 49 + 1) * g ≤ 2 ^ 101 * (f + 1) → (2 ^ 52 - 1) * w ≤ 2 ^ 52 * ((g + 1) * t) → 2 ^ 60 * t ≤ w → 0 < t
    → 2 ^ 104 * (x + y) ≤ (2 ^ 52 + 1) * (2 ^ 52 + 1) * w → ⊥
beyond_squares x y w a b s f g t h₁ h₂ h₃ h₄ h₅ h₆ h₇ h₈ h₉ =
    let k₃ : 2 ^ 52 * (s * t) ≤ (2 ^ 52 + 1) * (a * t + b * t) + 2 ^ 52 * t =
    le_trans (le_of_eq (sym (mul_assoc (2 ^ 52) s t)))
    (le_trans (mul-le-mul_right t h₃) (le_of_eq (add-mul ((2 ^ 52 + 1) * (a + b)) (2 ^ 52) t
    ∙ ap (λ (z : ℕ). z + 2 ^ 52 * t) (mul_assoc (2 ^ 52 + 1) (a + b) t ∙ ap (λ (z : ℕ). (2 ^ 52 + 1) * z) (add-mul a b t))))) in
    let k₅ : (2 ^ 52 - 1) * (2 ^ 49 + 1) * (g * t) ≤ 2 ^ 101 * (f * t + 1 * t) =
    le_trans (le_of_eq (sym (mul_assoc ((2 ^ 52 - 1) * (2 ^ 49 + 1)) g t)))
    (le_trans (mul-le-mul_right t h₅) (le_of_eq (mul_assoc (2 ^ 101) (f + 1) t ∙ ap (λ (z : ℕ). 2 ^ 101 * z) (add-mul f 1 t)))) in
    let k₆ : (2 ^ 52 - 1) * w ≤ 2 ^ 52 * (g * t + 1 * t) = le_trans h₆ (le_of_eq (ap (λ (z : ℕ). 2 ^ 52 * z) (add-mul g 1 t))) in
    let n = exact (x + y) w h₉ in
    let c = squared_up x y (a * t) (b * t) t w h₁ h₂ n h₇ in
    let d = summed_up (a * t + b * t) (s * t) t w k₃ c h₇ in
    let r = square_down (g * t) t w k₆ h₇ in
    let m = product_down (f * t) (g * t) t w k₅ r h₇ in
    apart (f * t) (s * t) t w m (mul-le-mul_right t h₄) d h₇ h₈

rim_finite : (w : Float) → Small w → T (finite (w ⊗ w ⊗ barely_more))
rim_finite w s =
    let a = square_finite w s in
    finite_between (O ⊗ barely_more) (w ⊗ w ⊗ barely_more) (M ⊗ M ⊗ barely_more) (unfold mul round in tt) (unfold mul round in tt)
    (mul_up O (w ⊗ w) barely_more tt a tt (square_nonneg w (small_finite w s)) refl)
    (mul_up (w ⊗ w) (M ⊗ M) barely_more a square_limit tt (square_small w s) refl)

far : (x y w : Float) → T (fits binary64 x) → T (fits binary64 y) → T (fits binary64 w) → T (le O w) → T (le w M) → T (le least w)
    → T (le (w ⊗ w ⊗ barely_more) (x ⊗ x ⊕ y ⊗ y)) → T (le (hypot_of x y) w) → ⊥
far x y w f g t z r l h k =
    let s = small_up w z r in
    let p = small_finite w s in
    let n = both_fine x y w p k in
    let e = hypot_least x y f g n.0 n.1 in
    let i = abs_small x (le_on (abs_of x) (hypot_of x y) M e.0 (le_on (hypot_of x y) w M k r)) in
    let j = abs_small y (le_on (abs_of y) (hypot_of x y) M e.1 (le_on (hypot_of x y) w M k r)) in
    let a = most x f n.0 (square_finite x i) in
    let b = most y g n.1 (square_finite y j) in
    let c = sum_most (x ⊗ x) (y ⊗ y) a.g b.g a.value b.value (sum_finite x y i j) in
    let m = rim w p (square_finite w s) (rim_finite w s) in
    let v = plus w t p l in
    let over : m.f ≤ c.s = le_of_mul-le-mul_right (under_of_le (w ⊗ w ⊗ barely_more) (x ⊗ x ⊕ y ⊗ y) false m.f (2 ^ 1074) false c.s (2 ^ 1074)
    (pow_pos 1074) (pow_pos 1074) m.value c.value h) (pow_pos 1074) in
    let large : 2 ^ 60 * 2 ^ 1074 ≤ count_of w * count_of w = le_trans (lit≤ tt) (mul-le-mul v.1 v.1) in
    beyond_squares (count_of x * count_of x) (count_of y * count_of y) (count_of w * count_of w) a.g b.g c.s m.f m.g (2 ^ 1074) a.more b.more
    c.more over m.product m.square large (pow_pos 1074) (half x y w f g t n.0 n.1 p l k)

-- ---- as the code has it
is_false : (b : Bool) → (T b → ⊥) → b ≡ false
is_false true f = absurd (f tt)
is_false false f = refl

pub far_square : (w : Float) → T (fits binary64 w) → is_radius w ≡ true → le least_bits w ≡ true → Beyond w (w ⊗ w ⊗ barely_bits)
far_square w t e l =
    let c = small_radius w e in
    record {
      out = λ x y f g k. is_false _ (far x y w f g t c.0 c.1 (holds _ (subst (λ (z : Float). le z w ≡ true) least_is l))
          (holds _ (subst (λ (z : Float). le (w ⊗ w ⊗ z) (x ⊗ x ⊕ y ⊗ y) ≡ true) barely_is k)));
    }

none_reached : (v : Float) → le (f0 ⊘ f0) v ≡ true → ⊥
unfolding of_bits div le lt eq
none_reached v h = no h

pub far_none : (w : Float) → Beyond w (f0 ⊘ f0)
far_none w = record { out = λ x y f g h. absurd (none_reached _ h) }
