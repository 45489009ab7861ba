-- A distance by its squares: where their sum, each operation rounded, is at most w * w * (1 - 2 ^ -50), rounded too, the distance is at most w. Four roundings
-- go at most a part in 2 ^ 52 each the wrong way, which 2 ^ -50 outweighs; a w of 2 ^ -300 or more outweighs what they lose among the smallest f64s.
use mathlib.Core.Bool.{Bool, true, false}
use mathlib.Core.Path.{◌≡◌, refl, sym, ap, ◌∙◌, subst}
use Prim.Native.Nat.{ℕ, ◌+◌, ◌-◌, ◌*◌, ◌/◌, ◌^◌, ◌≤◌, ◌<◌}
use native.Mathlib.Nat.{mul_assoc, mul_comm, mul_left_comm, mul_right_comm, add-mul, mul-add, mul-pos, mul-le-mul, mul-le-mul_right, mul-le-mul_left}
use native.Mathlib.Nat.{le_trans, le_of_eq, lt_irrefl, le_of_mul-le-mul_right, le_of_mul-le-mul_left, div-mul-le_self, mul-mul-mul_comm}
use native.Mathlib.Omega.{arith}
use lib.Dec.{T, lit<, lit≤}
use lib.IntN.{negsuc}
use lib.Pow.{pow_pos}
use lib.Ieee.{Float, nan, inf, fin, binary64, up, down, sum, round, add, mul, lt, le, eq, fits, of_bits}
use lib.Ieee.Exact.{HasValue}
use lib.Ieee.Fits.{down_pos}
use lib.Ieee.Scale.{finite, grid, round_same, round_val, round_under}
use Rattle.numbers.specs.Reals.{◌⊕◌, ◌⊗◌, minus1, abs_of, f0_is}
use Rattle.roots.specs.Hypot.{count_of, hypot_of}
use Rattle.rules.proofs.Branches.{no, holds}
use Rattle.roots.proofs.Distances.{count_is, hypot_under}
use Rattle.numbers.proofs.Signs.{under_of_le}
use Rattle.plane.specs.Ranges.{is_radius}
use Rattle.order.proofs.Ranges.{finite_between}
use Rattle.bound.specs.Inside.{Within}
use Rattle.order.proofs.Order.{O, le_trans as le_on, mul_up}
use Rattle.order.proofs.Roots.{distance_low}
use Rattle.bound.proofs.Small.{M, Small, small_finite, small_up, small_radius, square_small, square_limit, square_finite, square_nonneg, sum_nonneg}
use Rattle.order.proofs.Rounded.{not_less, not_more}

none_left : (w f : Float) → T (finite f) → T (le (add binary64 (inf false) w) f) → ⊥
unfolding add le lt eq
none_left w nan p h = absurd p
none_left w (inf s) p h = absurd p
none_left nan (fin t n d) p h = absurd h
none_left (inf true) (fin t n d) p h = absurd h
none_left (inf false) (fin t n d) p h = absurd h
none_left (fin s m e) (fin t n d) p h = absurd h

none_right : (w f : Float) → T (finite f) → T (le (add binary64 w (inf false)) f) → ⊥
unfolding add le lt eq
none_right w nan p h = absurd p
none_right w (inf s) p h = absurd p
none_right nan (fin t n d) p h = absurd h
none_right (inf true) (fin t n d) p h = absurd h
none_right (inf false) (fin t n d) p h = absurd h
none_right (fin s m e) (fin t n d) p h = absurd h

none_nan : (w f : Float) → T (le (add binary64 w nan) f) → ⊥
unfolding add le lt eq
none_nan nan f h = absurd h
none_nan (inf s) f h = absurd h
none_nan (fin s m e) f h = absurd h

both_fine : (p q f : Float) → T (finite f) → T (le O p) → T (le O q) → T (le (p ⊕ q) f) → T (finite p) × T (finite q)
unfolding le lt eq
both_fine nan q f g a b h = absurd a
both_fine (inf true) q f g a b h = absurd a
both_fine (inf false) q f g a b h = absurd (none_left q f g h)
both_fine (fin s m e) nan f g a b h = absurd b
both_fine (fin s m e) (inf true) f g a b h = absurd b
both_fine (fin s m e) (inf false) f g a b h = absurd (none_right (fin s m e) f g h)
both_fine (fin s m e) (fin t n d) f g a b h = (tt, tt)

pub record Fine (x y : Float) : Type 0 where
  pub first : T (finite x)
  pub second : T (finite y)
  pub square : T (finite (x ⊗ x))
  pub other : T (finite (y ⊗ y))
  pub low : T (le O (x ⊗ x ⊕ y ⊗ y))
  pub fine : T (finite (x ⊗ x ⊕ y ⊗ y))

pub sum_fine : (x y f : Float) → T (finite f) → T (le (x ⊗ x ⊕ y ⊗ y) f) → Fine x y
sum_fine nan y f g h = absurd (unfold mul add le lt eq in h)
sum_fine (inf true) y f g h = absurd (none_left (y ⊗ y) f g (unfold mul in h))
sum_fine (inf false) y f g h = absurd (none_left (y ⊗ y) f g (unfold mul in h))
sum_fine (fin s m e) nan f g h = absurd (none_nan (fin s m e ⊗ fin s m e) f (unfold mul in h))
sum_fine (fin s m e) (inf true) f g h = absurd (none_right (fin s m e ⊗ fin s m e) f g (unfold mul in h))
sum_fine (fin s m e) (inf false) f g h = absurd (none_right (fin s m e ⊗ fin s m e) f g (unfold mul in h))
sum_fine (fin s m e) (fin t n d) f g h =
    let x = fin s m e in
    let y = fin t n d in
    let a = square_nonneg x tt in
    let b = square_nonneg y tt in
    let k = both_fine (x ⊗ x) (y ⊗ y) f g a b h in
    let l = sum_nonneg (x ⊗ x) (y ⊗ y) k.0 k.1 a b in
    record { first = tt; second = tt; square = k.0; other = k.1; low = l; fine = finite_between O (x ⊗ x ⊕ y ⊗ y) f tt g l h }

-- ---- the operations, counted in smallest f64s
square_is : (s : Bool) (m : ℕ) (e : _) → fin s m e ⊗ fin s m e ≡ round binary64 false (m * up e * (m * up e)) (down e * down e)
unfolding mul
square_is true m e = refl
square_is false m e = refl

pub square_value : (s : Bool) (m : ℕ) (e : _) → T (finite (fin s m e ⊗ fin s m e))
    → HasValue (fin s m e ⊗ fin s m e) false (grid binary64 (m * up e * (m * up e)) (down e * down e)) (2 ^ 1074)
square_value s m e p =
    let r = square_is s m e in
    subst (λ (z : Float). HasValue z false (grid binary64 (m * up e * (m * up e)) (down e * down e)) (2 ^ 1074)) (sym r)
    (round_val binary64 _ _ (round_under binary64 _ _ (subst (λ (z : Float). T (finite z)) r p)))

-- a square is not much smaller than it should be
pub record Squared (x : Float) : Type 0 where
  pub g : ℕ
  pub value : HasValue (x ⊗ x) false g (2 ^ 1074)
  pub less : (2 ^ 52 - 1) * (count_of x * count_of x) ≤ 2 ^ 52 * ((g + 1) * 2 ^ 1074)

pub squared : (x : Float) → T (finite x) → T (finite (x ⊗ x)) → Squared x
squared nan p q = absurd p
squared (inf s) p q = absurd p
squared (fin s m e) p q =
    record {
      g = grid binary64 (m * up e * (m * up e)) (down e * down e);
      value = square_value s m e q;
      less = unfold count_of in
          go (m * up e) (down e) (m * up e * 2 ^ 1074 / down e) _ (down_pos e) (div-mul-le_self (m * up e * 2 ^ 1074) (down e))
          (not_less (m * up e * (m * up e)) (down e * down e) (mul-pos (down_pos e) (down_pos e)));
    }
  where
    go : (a c p g : ℕ) → 0 < c → p * c ≤ a * 2 ^ 1074 → (2 ^ 52 - 1) * (a * a * 2 ^ 1074) ≤ 2 ^ 52 * ((g + 1) * (c * c))
        → (2 ^ 52 - 1) * (p * p) ≤ 2 ^ 52 * ((g + 1) * 2 ^ 1074)
    go a c p g C h k =
        let t = 2 ^ 1074 in
        le_of_mul-le-mul_right {k = c * c}
        (le_trans (le_of_eq (mul_assoc (2 ^ 52 - 1) (p * p) (c * c) ∙ ap (λ (z : ℕ). (2 ^ 52 - 1) * z) (mul-mul-mul_comm p p c c)))
        (le_trans (mul-le-mul_left (2 ^ 52 - 1) (mul-le-mul h h))
        (le_trans (le_of_eq (ap (λ (z : ℕ). (2 ^ 52 - 1) * z) (mul-mul-mul_comm a t a t ∙ sym (mul_assoc (a * a) t t))
        ∙ sym (mul_assoc (2 ^ 52 - 1) (a * a * t) t)))
        (le_trans (mul-le-mul_right t k)
        (le_of_eq (mul_assoc (2 ^ 52) ((g + 1) * (c * c)) t ∙ ap (λ (z : ℕ). 2 ^ 52 * z) (mul_right_comm (g + 1) (c * c) t)
        ∙ sym (mul_assoc (2 ^ 52) ((g + 1) * t) (c * c))))))))
        (mul-pos C C)

-- nor much larger, of an f64
pub square_more : (s : Bool) (m : ℕ) (e : _) → T (fits binary64 (fin s m e))
    → 2 ^ 52 * (grid binary64 (m * up e * (m * up e)) (down e * down e) * 2 ^ 1074) ≤ (2 ^ 52 + 1)
    * (count_of (fin s m e) * count_of (fin s m e)) + 2 ^ 52 * 2 ^ 1074
square_more s m e t =
    up_square (m * up e) (down e) (count_of (fin s m e)) _ (down_pos e) (count_is s m e t)
    (not_more (m * up e * (m * up e)) (down e * down e) (mul-pos (down_pos e) (down_pos e)))
  where
    up_square : (a c p g : ℕ) → 0 < c → a * 2 ^ 1074 ≡ p * c → 2 ^ 52 * (g * (c * c)) ≤ (2 ^ 52 + 1) * (a * a * 2 ^ 1074) + 2 ^ 52 * (c * c)
        → 2 ^ 52 * (g * 2 ^ 1074) ≤ (2 ^ 52 + 1) * (p * p) + 2 ^ 52 * 2 ^ 1074
    up_square a c p g C h k =
        let t = 2 ^ 1074 in
        let e : (2 ^ 52 + 1) * (a * a * t) * t ≡ (2 ^ 52 + 1) * (p * p) * (c * c) =
        mul_assoc (2 ^ 52 + 1) (a * a * t) t ∙ ap (λ (z : ℕ). (2 ^ 52 + 1) * z) (mul_assoc (a * a) t t ∙ mul-mul-mul_comm a a t t ∙ ap (λ (z : ℕ). z * z) h
        ∙ mul-mul-mul_comm p c p c) ∙ sym (mul_assoc (2 ^ 52 + 1) (p * p) (c * c)) in
        let f : 2 ^ 52 * (c * c) * t ≡ 2 ^ 52 * t * (c * c) = mul_right_comm (2 ^ 52) (c * c) t in
        le_of_mul-le-mul_right {k = c * c}
        (le_trans (le_of_eq (mul_assoc (2 ^ 52) (g * t) (c * c) ∙ ap (λ (z : ℕ). 2 ^ 52 * z) (mul_right_comm g t (c * c))
        ∙ sym (mul_assoc (2 ^ 52) (g * (c * c)) t)))
        (le_trans (mul-le-mul_right t k)
        (le_of_eq (add-mul ((2 ^ 52 + 1) * (a * a * t)) (2 ^ 52 * (c * c)) t ∙ ap (λ (z : ℕ). z + 2 ^ 52 * (c * c) * t) e
        ∙ ap (λ (z : ℕ). (2 ^ 52 + 1) * (p * p) * (c * c) + z) f ∙ sym (add-mul ((2 ^ 52 + 1) * (p * p)) (2 ^ 52 * t) (c * c))))))
        (mul-pos C C)

-- a sum is not much smaller either
pub record Summed (p q : Float) (a b : ℕ) : Type 0 where
  pub s : ℕ
  pub value : HasValue (p ⊕ q) false s (2 ^ 1074)
  pub less : (2 ^ 52 - 1) * (a + b) ≤ 2 ^ 52 * (s + 1)

pub sum_is : (m : ℕ) (e : _) (n : ℕ) (d : _) (a b : ℕ) → m * up e * 2 ^ 1074 ≡ a * down e → n * up d * 2 ^ 1074 ≡ b * down d
    → fin false m e ⊕ fin false n d ≡ round binary64 false (a + b) (2 ^ 1074)
unfolding add sum
sum_is m e n d a b h k =
    round_same binary64 false (m * up e * down d + n * up d * down e) (down e * down d) (a + b) (2 ^ 1074) (mul-pos (down_pos e) (down_pos d)) (pow_pos 1074)
    (add-mul (m * up e * down d) (n * up d * down e) (2 ^ 1074)
    ∙ ap (λ (z : ℕ). z + n * up d * down e * 2 ^ 1074) (mul_right_comm (m * up e) (down d) (2 ^ 1074) ∙ ap (λ (z : ℕ). z * down d) h
    ∙ mul_assoc a (down e) (down d))
    ∙ ap (λ (z : ℕ). a * (down e * down d) + z) (mul_right_comm (n * up d) (down e) (2 ^ 1074) ∙ ap (λ (z : ℕ). z * down e) k ∙ mul_assoc b (down d) (down e)
    ∙ ap (λ (z : ℕ). b * z) (mul_comm (down d) (down e)))
    ∙ sym (add-mul a b (down e * down d)))

summed : (p q : Float) (a b : ℕ) → HasValue p false a (2 ^ 1074) → HasValue q false b (2 ^ 1074) → T (finite (p ⊕ q)) → Summed p q a b
summed nan q a b h k f = absurd h
summed (inf s) q a b h k f = absurd h
summed (fin s m e) nan a b h k f = absurd k
summed (fin s m e) (inf t) a b h k f = absurd k
summed (fin s m e) (fin t n d) a b h k f =
    let r : fin s m e ⊕ fin t n d ≡ round binary64 false (a + b) (2 ^ 1074) = ap (λ (z : Bool). fin z m e ⊕ fin t n d) h.0
    ∙ ap (λ (z : Bool). fin false m e ⊕ fin z n d) k.0 ∙ sum_is m e n d a b h.1 k.1 in
    let g = grid binary64 (a + b) (2 ^ 1074) in
    record {
      s = g;
      value = subst (λ (z : Float). HasValue z false g (2 ^ 1074)) (sym r)
          (round_val binary64 (a + b) (2 ^ 1074) (round_under binary64 (a + b) (2 ^ 1074) (subst (λ (z : Float). T (finite z)) r f)));
      less = le_of_mul-le-mul_right {k = 2 ^ 1074} (le_trans (le_of_eq (mul_assoc (2 ^ 52 - 1) (a + b) (2 ^ 1074)))
          (le_trans (not_less (a + b) (2 ^ 1074) (pow_pos 1074)) (le_of_eq (sym (mul_assoc (2 ^ 52) (g + 1) (2 ^ 1074)))))) (pow_pos 1074);
    }

-- ---- w * w * (1 - 2 ^ -50)
abbrev pub nearly_one : Float
nearly_one = fin false (2 ^ 50 - 1) (negsuc 49)

abbrev pub least : Float
least = fin false 1 (negsuc 299)

-- the same by their bits
abbrev pub nearly_bits : Float
nearly_bits = of_bits binary64 0x3fef_ffff_ffff_fff8

abbrev pub least_bits : Float
least_bits = of_bits binary64 0x2d30_0000_0000_0000

nearly_is : nearly_bits ≡ nearly_one
unfolding of_bits
nearly_is = refl

pub least_is : least_bits ≡ least
unfolding of_bits
least_is = refl

pub record Margin (w : Float) : Type 0 where
  pub f : ℕ
  pub g : ℕ
  pub value : HasValue (w ⊗ w ⊗ nearly_one) false f (2 ^ 1074)
  pub square : 2 ^ 52 * (g * 2 ^ 1074) ≤ (2 ^ 52 + 1) * (count_of w * count_of w) + 2 ^ 52 * 2 ^ 1074
  pub product : 2 ^ 102 * f ≤ (2 ^ 52 + 1) * (2 ^ 50 - 1) * g + 2 ^ 102

pub product_is : (v : Float) (g m : ℕ) (e : _) → HasValue v false g (2 ^ 1074) → v ⊗ fin false m e ≡ round binary64 false (g * (m * up e)) (2 ^ 1074 * down e)
unfolding mul
product_is nan g m e h = absurd h
product_is (inf s) g m e h = absurd h
product_is (fin true n d) g m e h = absurd (no (sym h.0))
product_is (fin false n d) g m e h =
    round_same binary64 false (n * up d * (m * up e)) (down d * down e) (g * (m * up e)) (2 ^ 1074 * down e) (mul-pos (down_pos d) (down_pos e))
    (mul-pos (pow_pos 1074) (down_pos e))
    (mul-mul-mul_comm (n * up d) (m * up e) (2 ^ 1074) (down e) ∙ ap (λ (z : ℕ). z * (m * up e * down e)) h.1
    ∙ mul-mul-mul_comm g (down d) (m * up e) (down e))

margin : (w : Float) → T (fits binary64 w) → T (finite w) → T (finite (w ⊗ w)) → T (finite (w ⊗ w ⊗ nearly_one)) → Margin w
margin nan t p q r = absurd p
margin (inf s) t p q r = absurd p
margin (fin s m e) t p q r =
    let g = grid binary64 (m * up e * (m * up e)) (down e * down e) in
    let x : fin s m e ⊗ fin s m e ⊗ nearly_one ≡ round binary64 false (g * (2 ^ 50 - 1)) (2 ^ 1074 * 2 ^ 50) =
    product_is (fin s m e ⊗ fin s m e) g (2 ^ 50 - 1) (negsuc 49) (square_value s m e q) in
    let f = grid binary64 (g * (2 ^ 50 - 1)) (2 ^ 1074 * 2 ^ 50) in
    record {
      f = f;
      g = g;
      value = subst (λ (z : Float). HasValue z false f (2 ^ 1074)) (sym x)
          (round_val binary64 _ _ (round_under binary64 _ _ (subst (λ (z : Float). T (finite z)) x r)));
      square = square_more s m e t;
      product = up_product f g (not_more (g * (2 ^ 50 - 1)) (2 ^ 1074 * 2 ^ 50) (mul-pos (pow_pos 1074) (pow_pos 50)));
    }
  where
    up_product : (f g : ℕ) → 2 ^ 52 * (f * (2 ^ 1074 * 2 ^ 50)) ≤ (2 ^ 52 + 1) * (g * (2 ^ 50 - 1) * 2 ^ 1074) + 2 ^ 52 * (2 ^ 1074 * 2 ^ 50)
        → 2 ^ 102 * f ≤ (2 ^ 52 + 1) * (2 ^ 50 - 1) * g + 2 ^ 102
    up_product f g h =
        let t = 2 ^ 1074 in
        let a : 2 ^ 52 * (f * (t * 2 ^ 50)) ≡ 2 ^ 102 * f * t = simp (mul_assoc, mul_comm, mul_left_comm) in
        let b : (2 ^ 52 + 1) * (g * (2 ^ 50 - 1) * t) ≡ (2 ^ 52 + 1) * (2 ^ 50 - 1) * g * t = simp (mul_assoc, mul_comm, mul_left_comm) in
        let c : 2 ^ 52 * (t * 2 ^ 50) ≡ 2 ^ 102 * t = refl in
        le_of_mul-le-mul_right {k = t} (le_trans (le_of_eq (sym a)) (le_trans h (le_of_eq (ap (λ (z : ℕ). z + 2 ^ 52 * (t * 2 ^ 50)) b
        ∙ ap (λ (z : ℕ). (2 ^ 52 + 1) * (2 ^ 50 - 1) * g * t + z) c ∙ sym (add-mul ((2 ^ 52 + 1) * (2 ^ 50 - 1) * g) (2 ^ 102) t))))) (pow_pos 1074)

-- ---- the four roundings together: x, y and w are squares, t what one smallest f64 counts in them
within_squares : (x y w a b s f g t : ℕ) → (2 ^ 52 - 1) * x ≤ 2 ^ 52 * ((a + 1) * t) → (2 ^ 52 - 1) * y ≤ 2 ^ 52 * ((b + 1) * t)
    → (2 ^ 52 - 1) * (a + b) ≤ 2 ^ 52 * (s + 1) → s ≤ f
    → 2 ^ 102 * f ≤ (2 ^ 52 + 1) * (2 ^ 50 - 1) * g + 2 ^ 102 → 2 ^ 52 * (g * t) ≤ (2 ^ 52 + 1) * w + 2 ^ 52 * t → 2 ^ 200 * t ≤ w → x + y ≤ w
within_squares x y w a b s f g t h₁ h₂ h₃ h₄ h₅ h₆ h₇ =
    let A = 2 ^ 52 in
    let B = 2 ^ 52 - 1 in
    let C = 2 ^ 52 + 1 in
    let D = 2 ^ 50 - 1 in
    let E = 2 ^ 102 in
    let e₁ : (a + 1) * t + (b + 1) * t ≡ (a + b + 2) * t = sym (add-mul (a + 1) (b + 1) t) ∙ ap (λ (z : ℕ). z * t) (tidy a b) in
    let k₁ : B * (x + y) ≤ A * ((a + b + 2) * t) = both x y ((a + 1) * t) ((b + 1) * t) ((a + b + 2) * t) h₁ h₂ e₁ in
    let k₂ : B * (a + b + 2) ≤ A * (f + 3) = digits (a + b) s f h₃ h₄ in
    let k₃ : B * (B * (x + y)) ≤ A * A * ((f + 3) * t) =
    le_trans (mul-le-mul_left B k₁)
    (le_trans (le_of_eq (mul_left_comm B A ((a + b + 2) * t) ∙ ap (λ (z : ℕ). A * z) (sym (mul_assoc B (a + b + 2) t))))
    (le_trans (mul-le-mul_left A (mul-le-mul_right t k₂)) (le_of_eq (ap (λ (z : ℕ). A * z) (mul_assoc A (f + 3) t) ∙ sym (mul_assoc A A ((f + 3) * t)))))) in
    let k₄ : E * (f + 3) ≤ C * D * g + 4 * E = more f g h₅ in
    let k₅ : E * (A * ((f + 3) * t)) ≤ (C * D * C + 1) * w =
    le_trans (le_of_eq (mul_left_comm E A ((f + 3) * t) ∙ ap (λ (z : ℕ). A * z) (sym (mul_assoc E (f + 3) t))))
    (le_trans (mul-le-mul_left A (mul-le-mul_right t k₄))
    (le_trans (le_of_eq (ap (λ (z : ℕ). A * z) (add-mul (C * D * g) (4 * E) t) ∙ mul-add A (C * D * g * t) (4 * E * t)
    ∙ ap (λ (z : ℕ). z + A * (4 * E * t)) (ap (λ (z : ℕ). A * z) (mul_assoc (C * D) g t) ∙ mul_left_comm A (C * D) (g * t))))
    (le_trans (add_le (C * D * (A * (g * t))) (C * D * (C * w + A * t)) (A * (4 * E * t)) (mul-le-mul_left (C * D) h₆))
    (rest w t h₇)))) in
    le_of_mul-le-mul_left {k = E * (B * B)}
    (le_trans (le_of_eq (mul_assoc E (B * B) (x + y) ∙ ap (λ (z : ℕ). E * z) (mul_assoc B B (x + y))))
    (le_trans (mul-le-mul_left E k₃)
    (le_trans (le_of_eq (ap (λ (z : ℕ). E * z) (mul_assoc A A ((f + 3) * t)) ∙ mul_left_comm E A (A * ((f + 3) * t))))
    (le_trans (mul-le-mul_left A k₅)
    (le_trans (le_of_eq (sym (mul_assoc A (C * D * C + 1) w)))
    (mul-le-mul_right w (lit≤ {m = 2 ^ 52 * ((2 ^ 52 + 1) * (2 ^ 50 - 1) * (2 ^ 52 + 1) + 1)} {n = 2 ^ 102 * ((2 ^ 52 - 1) * (2 ^ 52 - 1))} tt)))))))
    (lit< {m = 0} {n = 2 ^ 102 * ((2 ^ 52 - 1) * (2 ^ 52 - 1))} tt)
  where
    tidy : (a b : ℕ) → a + 1 + (b + 1) ≡ a + b + 2
    tidy a b = omega arith

    both : (x y p q r : ℕ) → (2 ^ 52 - 1) * x ≤ 2 ^ 52 * p → (2 ^ 52 - 1) * y ≤ 2 ^ 52 * q → p + q ≡ r → (2 ^ 52 - 1) * (x + y) ≤ 2 ^ 52 * r
    both x y p q r h k e = omega arith

    digits : (c s f : ℕ) → (2 ^ 52 - 1) * c ≤ 2 ^ 52 * (s + 1) → s ≤ f → (2 ^ 52 - 1) * (c + 2) ≤ 2 ^ 52 * (f + 3)
    digits c s f h k = omega arith

    more : (f g : ℕ) → 2 ^ 102 * f ≤ (2 ^ 52 + 1) * (2 ^ 50 - 1) * g + 2 ^ 102 → 2 ^ 102 * (f + 3) ≤ (2 ^ 52 + 1) * (2 ^ 50 - 1) * g + 4 * 2 ^ 102
    more f g h = omega arith

    add_le : (x y z : ℕ) → x ≤ y → x + z ≤ y + z
    add_le x y z h = omega arith

    rest : (w t : ℕ) → 2 ^ 200 * t ≤ w
        → (2 ^ 52 + 1) * (2 ^ 50 - 1) * ((2 ^ 52 + 1) * w + 2 ^ 52 * t) + 2 ^ 52 * (4 * 2 ^ 102 * t) ≤ ((2 ^ 52 + 1) * (2 ^ 50 - 1) * (2 ^ 52 + 1) + 1) * w
    rest w t h =
        let K = (2 ^ 52 + 1) * (2 ^ 50 - 1) in
        let a : K * ((2 ^ 52 + 1) * w + 2 ^ 52 * t) ≡ K * (2 ^ 52 + 1) * w + K * 2 ^ 52 * t = mul-add K ((2 ^ 52 + 1) * w) (2 ^ 52 * t) ∙ ap
        (λ (z : ℕ). z + K * (2 ^ 52 * t)) (sym (mul_assoc K (2 ^ 52 + 1) w)) ∙ ap (λ (z : ℕ). K * (2 ^ 52 + 1) * w + z) (sym (mul_assoc K (2 ^ 52) t)) in
        let b : 2 ^ 52 * (4 * 2 ^ 102 * t) ≡ 2 ^ 52 * (4 * 2 ^ 102) * t = sym (mul_assoc (2 ^ 52) (4 * 2 ^ 102) t) in
        let c : K * 2 ^ 52 * t + 2 ^ 52 * (4 * 2 ^ 102) * t ≤ w =
        le_trans (le_of_eq (sym (add-mul (K * 2 ^ 52) (2 ^ 52 * (4 * 2 ^ 102)) t)))
        (le_trans (mul-le-mul_right t (lit≤ {m = (2 ^ 52 + 1) * (2 ^ 50 - 1) * 2 ^ 52 + 2 ^ 52 * (4 * 2 ^ 102)} {n = 2 ^ 200} tt)) h) in
        let d : (K * (2 ^ 52 + 1) + 1) * w ≡ K * (2 ^ 52 + 1) * w + 1 * w = add-mul (K * (2 ^ 52 + 1)) 1 w in
        join (K * ((2 ^ 52 + 1) * w + 2 ^ 52 * t)) (K * (2 ^ 52 + 1) * w) (K * 2 ^ 52 * t) (2 ^ 52 * (4 * 2 ^ 102 * t)) (2 ^ 52 * (4 * 2 ^ 102) * t)
        ((K * (2 ^ 52 + 1) + 1) * w) w a b c d
      where
        join : (p q r s u z w : ℕ) → p ≡ q + r → s ≡ u → r + u ≤ w → z ≡ q + 1 * w → p + s ≤ z
        join p q r s u z w a b c d = omega arith

-- ---- w itself: 2 ^ -300 or more
least_value : HasValue least false (2 ^ 774) (2 ^ 1074)
least_value = (refl, refl)

pub plus : (w : Float) → T (fits binary64 w) → T (finite w) → T (le least w) → HasValue w false (count_of w) (2 ^ 1074) × (2 ^ 774 ≤ count_of w) × (abs_of w ≡ w)
unfolding abs_of
plus nan t p h = absurd p
plus (inf s) t p h = absurd p
plus (fin true m e) t p h =
    absurd (some (under_of_le least (fin true m e) false (2 ^ 774) (2 ^ 1074) true (count_of (fin true m e)) (2 ^ 1074) (pow_pos 1074) (pow_pos 1074) least_value
    (refl, count_is true m e t) h).0)
  where
    some : 2 ^ 774 ≡ 0 → ⊥
    some e = lt_irrefl 0 (subst (λ (z : ℕ). 0 < z) e (pow_pos 774))
plus (fin false m e) t p h =
    let v = count_is false m e t in (
      (refl, v),
      le_of_mul-le-mul_right (under_of_le least (fin false m e) false (2 ^ 774) (2 ^ 1074) false (count_of (fin false m e)) (2 ^ 1074) (pow_pos 1074)
          (pow_pos 1074) least_value (refl, v) h) (pow_pos 1074),
      refl,
    )

pub near : (x y w : Float) → T (fits binary64 w) → T (finite w) → T (finite (w ⊗ w)) → T (finite (w ⊗ w ⊗ nearly_one)) → T (le least w)
    → T (le (x ⊗ x ⊕ y ⊗ y) (w ⊗ w ⊗ nearly_one)) → T (le (hypot_of x y) w)
near x y w t p q r l h =
    let s = sum_fine x y (w ⊗ w ⊗ nearly_one) r h in
    let a = squared x s.first s.square in
    let b = squared y s.second s.other in
    let c = summed (x ⊗ x) (y ⊗ y) a.g b.g a.value b.value s.fine in
    let m = margin w t p q r in
    let v = plus w t p l in
    let under : c.s ≤ m.f = le_of_mul-le-mul_right (under_of_le (x ⊗ x ⊕ y ⊗ y) (w ⊗ w ⊗ nearly_one) false c.s (2 ^ 1074) false m.f (2 ^ 1074)
    (pow_pos 1074) (pow_pos 1074) c.value m.value h) (pow_pos 1074) in
    let large : 2 ^ 200 * 2 ^ 1074 ≤ count_of w * count_of w = le_trans (lit≤ tt) (mul-le-mul v.1 v.1) in
    subst (λ (z : Float). T (le (hypot_of x y) z)) v.2
    (hypot_under x y w t s.first s.second p
    (within_squares (count_of x * count_of x) (count_of y * count_of y) (count_of w * count_of w) a.g b.g c.s m.f m.g (2 ^ 1074) a.less b.less
    c.less under m.product m.square large))

-- ---- as the code has it
square_small_enough : (w : Float) → Small w → T (le O w) → T (finite (w ⊗ w ⊗ nearly_one))
square_small_enough w s z =
    let a = square_finite w s in
    let b = square_nonneg w (small_finite w s) in
    finite_between (O ⊗ nearly_one) (w ⊗ w ⊗ nearly_one) (M ⊗ M ⊗ nearly_one) (unfold mul round in tt) (unfold mul round in tt)
    (mul_up O (w ⊗ w) nearly_one tt a tt b refl) (mul_up (w ⊗ w) (M ⊗ M) nearly_one a square_limit tt (square_small w s) refl)

pub near_square : (w : Float) → T (fits binary64 w) → is_radius w ≡ true → le least_bits w ≡ true → Within w (w ⊗ w ⊗ nearly_bits)
near_square w t e l =
    let c = small_radius w e in
    let s = small_up w c.0 c.1 in
    let f = square_small_enough w s c.0 in
    let h : (x y : Float) → le (x ⊗ x ⊕ y ⊗ y) (w ⊗ w ⊗ nearly_bits) ≡ true
    → T (le (x ⊗ x ⊕ y ⊗ y) (w ⊗ w ⊗ nearly_one)) = λ x y h. holds _ (subst (λ (z : Float). le (x ⊗ x ⊕ y ⊗ y) (w ⊗ w ⊗ z) ≡ true) nearly_is h) in
    record {
      low = λ x y k. let g = sum_fine x y (w ⊗ w ⊗ nearly_one) f (h x y k) in rw f0_is (distance_low x y g.first g.second);
      near = λ x y k. near x y w t (small_finite w s) (square_finite w s) f (holds _ (subst (λ (z : Float). le z w ≡ true) least_is l)) (h x y k);
    }

below : (x y : Float) → T (le (x ⊗ x ⊕ y ⊗ y) minus1) → ⊥
unfolding of_bits le lt eq
below x y h = absurd (le_on O (x ⊗ x ⊕ y ⊗ y) minus1 (sum_fine x y minus1 tt h).low h)

pub near_none : (w : Float) → Within w minus1
near_none w = record { low = λ x y h. absurd (below x y (holds _ h)); near = λ x y h. absurd (below x y (holds _ h)) }
