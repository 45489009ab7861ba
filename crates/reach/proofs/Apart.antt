-- Roots by what they are the roots of: they keep the order, and where a number is a part in 2 ^ 49 above another, its root is above the other's. A root is
-- rounded by at most half of its last digit, which its square shows twice: numbers whose roots round to one are less than a part in 2 ^ 50 apart.
use mathlib.Core.Bool.{Bool, true, false, not}
use mathlib.Core.Path.{◌≡◌, refl, sym, ap, ◌∙◌, subst}
use Prim.Native.Nat.{ℕ, ◌+◌, ◌-◌, ◌*◌, ◌^◌, ◌≤◌, ◌<◌}
use native.Mathlib.Nat.{mul_assoc, mul_comm, mul_left_comm, mul_right_comm, mul-pos, mul-le-mul, mul-le-mul_right, mul-le-mul_left, mul-mul-mul_comm}
use native.Mathlib.Nat.{le_trans, le_of_eq, le_of_lt, le_of_mul-le-mul_right, le_of_mul-le-mul_left, eq_of_mul-eq-mul_right}
use native.Mathlib.Omega.{arith}
use lib.Dec.{T, not_T, leb, leb→le, nleb→lt, lt→ltb, lit<, lit≤}
use lib.IntN.{negsuc}
use lib.Pow.{pow_pos}
use lib.Ieee.{Float, nan, inf, fin, binary64, up, down, round, mul, lt, le, eq, fits, of_bits}
use lib.Ieee.Bits.{is_true, is_false}
use lib.Ieee.Exact.{HasValue}
use lib.Ieee.Fits.{down_pos}
use lib.Ieee.Positive.{num, den, den_pos, value→cross, positive_of_value}
use lib.Ieee.Scale.{finite, grid, round_val, round_under}
use Rattle.rules.proofs.Branches.{no, holds}
use Rattle.numbers.specs.Reals.{◌⊗◌, f0, f0_is}
use Rattle.numbers.proofs.Signs.{under_of_le}
use Rattle.roots.specs.Root.{root_of}
use Rattle.roots.specs.Hypot.{count_of}
use Rattle.roots.proofs.Between.{root_nearest}
use Rattle.roots.proofs.Scales.{square_power}
use Rattle.order.proofs.Order.{O, le_trans as le_on, mul_up}
use Rattle.order.proofs.Ranges.{finite_between}
use Rattle.order.proofs.Roots.{root_finite, root_le}
use Rattle.order.proofs.Rounded.{not_less}
use Rattle.order.proofs.Strict.{le_not_lt}
use Rattle.bound.proofs.Near.{least, least_bits, least_is, plus, product_is}
use Rattle.bound.proofs.Far.{barely_more, barely_bits}

-- ---- roots keep the order, infinite ones too
finite_below : (w : Float) → T (finite w) → T (le w (root_of (inf false)))
unfolding root_of le lt
finite_below nan p = absurd p
finite_below (inf s) p = absurd p
finite_below (fin s m e) p = tt

pub roots_rise : (x y : Float) → T (fits binary64 x) → T (fits binary64 y) → T (le O x) → T (le x y) → T (le (root_of x) (root_of y))
roots_rise nan y f g z h = absurd (unfold le lt eq in z)
roots_rise (inf true) y f g z h = absurd (unfold le lt eq in z)
roots_rise (inf false) nan f g z h = absurd (unfold le lt eq in h)
roots_rise (inf false) (inf true) f g z h = absurd (unfold le lt eq in h)
roots_rise (inf false) (inf false) f g z h = unfold root_of in h
roots_rise (inf false) (fin t n d) f g z h = absurd (unfold le lt eq in h)
roots_rise (fin s m e) nan f g z h = absurd (unfold le lt eq in h)
roots_rise (fin s m e) (inf true) f g z h = absurd (unfold le lt eq in h)
roots_rise (fin s m e) (inf false) f g z h = finite_below (root_of (fin s m e)) (root_finite (fin s m e) f tt z).1
roots_rise (fin s m e) (fin t n d) f g z h = root_le (fin s m e) (fin t n d) f g tt tt z h

-- ---- squares of roots that are not above each other, in parts of 2 ^ 52: t is what one smallest f64 counts in them
high_side : (q k Q : ℕ) → 2 ^ 52 ≤ q → q * 2 ^ k ≤ Q → 2 ^ 52 * ((2 * q + 1) * 2 ^ k) ≤ (2 ^ 53 + 1) * Q
high_side q k Q d h =
    le_trans (le_of_eq (sym (mul_assoc (2 ^ 52) (2 * q + 1) (2 ^ k))))
    (le_trans (mul-le-mul_right (2 ^ k) (go q d))
    (le_trans (le_of_eq (mul_assoc (2 ^ 53 + 1) q (2 ^ k))) (mul-le-mul_left (2 ^ 53 + 1) h)))
  where
    go : (q : ℕ) → 2 ^ 52 ≤ q → 2 ^ 52 * (2 * q + 1) ≤ (2 ^ 53 + 1) * q
    go q d = omega arith

low_side : (q k : ℕ) → 2 ^ 52 ≤ q → (2 ^ 53 - 1) * (q * 2 ^ k) ≤ 2 ^ 52 * ((2 * q - 1) * 2 ^ k)
low_side q k d =
    le_trans (le_of_eq (sym (mul_assoc (2 ^ 53 - 1) q (2 ^ k))))
    (le_trans (mul-le-mul_right (2 ^ k) (go q d)) (le_of_eq (mul_assoc (2 ^ 52) (2 * q - 1) (2 ^ k))))
  where
    go : (q : ℕ) → 2 ^ 52 ≤ q → (2 ^ 53 - 1) * q ≤ 2 ^ 52 * (2 * q - 1)
    go q d = omega arith

-- what the two squares are of each other
squares : (c C A Q L U x y : ℕ) → 0 < A → c * Q ≤ A * L → A * U ≤ C * Q → L * L ≤ x → y ≤ U * U → c * c * y ≤ C * C * x
squares c C A Q L U x y a h k l m =
    le_of_mul-le-mul_left {k = A * A}
    (le_trans (le_of_eq (mul_left_comm (A * A) (c * c) y))
    (le_trans (mul-le-mul_left (c * c) (le_trans (mul-le-mul_left (A * A) m) (le_trans (le_of_eq (mul-mul-mul_comm A A U U)) (mul-le-mul k k))))
    (le_trans (le_of_eq (ap (λ (z : ℕ). c * c * z) (mul-mul-mul_comm C Q C Q) ∙ mul_left_comm (c * c) (C * C) (Q * Q)
    ∙ ap (λ (z : ℕ). C * C * z) (mul-mul-mul_comm c c Q Q)))
    (le_trans (mul-le-mul_left (C * C) (le_trans (mul-le-mul h h) (le_trans (le_of_eq (mul-mul-mul_comm A L A L)) (mul-le-mul_left (A * A) l))))
    (le_of_eq (mul_left_comm (C * C) (A * A) x))))))
    (mul-pos a a)

coarse : (k u m n v x y : ℕ) → 0 < k → k * u ≤ m → n ≤ k * v → m * x ≤ n * y → u * x ≤ v * y
coarse k u m n v x y p h l e =
    le_of_mul-le-mul_left {k = k} (le_trans (le_of_eq (sym (mul_assoc k u x)))
    (le_trans (mul-le-mul_right x h) (le_trans e (le_trans (mul-le-mul_right y l) (le_of_eq (mul_assoc k v y)))))) p

never : (f g h : ℕ) → (2 ^ 53 - 1) * (2 ^ 53 - 1) * h ≤ (2 ^ 53 + 1) * (2 ^ 53 + 1) * g → (2 ^ 52 - 1) * (2 ^ 49 + 1) * g ≤ 2 ^ 101 * (f + 1) → f ≤ h
    → 2 ^ 54 ≤ g → ⊥
never f g h a b c d =
    go f g h
    (coarse (2 ^ 52) (2 ^ 54 - 4) ((2 ^ 53 - 1) * (2 ^ 53 - 1)) ((2 ^ 53 + 1) * (2 ^ 53 + 1)) (2 ^ 54 + 5) h g (lit< tt) (lit≤ tt) (lit≤ tt) a)
    (coarse (2 ^ 47) (2 ^ 54 + 27) ((2 ^ 52 - 1) * (2 ^ 49 + 1)) (2 ^ 101) (2 ^ 54) g (f + 1) (lit< tt) (lit≤ tt) (lit≤ tt) b) c d
  where
    lower : (g h : ℕ) → (2 ^ 54 - 4) * h ≤ (2 ^ 54 + 5) * g → 2 ^ 54 * h ≤ 2 ^ 54 * g + (5 * g + 4 * h)
    lower g h a = omega arith

    few : (g h : ℕ) → (2 ^ 54 - 4) * h ≤ (2 ^ 54 + 5) * g → 4 * h ≤ 5 * g
    few g h a = omega arith

    upper : (f g h : ℕ) → (2 ^ 54 + 27) * g ≤ 2 ^ 54 * (f + 1) → f ≤ h → 2 ^ 54 * g + 27 * g ≤ 2 ^ 54 * h + 2 ^ 54
    upper f g h b c = omega arith

    apart : (h' g' g h t : ℕ) → h' ≤ g' + (5 * g + 4 * h) → 4 * h ≤ 5 * g → g' + 27 * g ≤ h' + t → t ≤ g → 0 < t → ⊥
    apart h' g' g h t a b c d e = omega arith

    go : (f g h : ℕ) → (2 ^ 54 - 4) * h ≤ (2 ^ 54 + 5) * g → (2 ^ 54 + 27) * g ≤ 2 ^ 54 * (f + 1) → f ≤ h → 2 ^ 54 ≤ g → ⊥
    go f g h a b c d = apart (2 ^ 54 * h) (2 ^ 54 * g) g h (2 ^ 54) (lower g h a) (few g h a) (upper f g h b c) d (lit< tt)

-- ---- the floats
lt_of_values : (x y : Float) (a b c : ℕ) → 0 < c → HasValue x false a c → HasValue y false b c → a < b → T (lt x y)
lt_of_values nan y a b c p h k l = absurd h
lt_of_values (inf s) y a b c p h k l = absurd h
lt_of_values (fin s m e) nan a b c p h k l = absurd k
lt_of_values (fin s m e) (inf t) a b c p h k l = absurd k
lt_of_values (fin true m e) (fin t n d) a b c p h k l = absurd (no (sym h.0))
lt_of_values (fin false m e) (fin true n d) a b c p h k l = absurd (no (sym k.0))
lt_of_values (fin false m e) (fin false n d) a b c p h k l =
    unfold lt in lt→ltb (m * up e * down d) (n * up d * down e)
    (go (leb (n * up d * down e) (m * up e * down d)) (λ w. absurd (over (leb→le _ _ w))) (nleb→lt _ _))
  where
    over : n * up d * down e ≤ m * up e * down d → ⊥
    over w =
        let v : b ≤ a = le_of_mul-le-mul_right {k = down d * down e}
        (le_trans (le_of_eq (sym (mul_assoc b (down d) (down e)) ∙ ap (λ (z : ℕ). z * down e) (sym k.1) ∙ mul_right_comm (n * up d) c (down e)))
        (le_trans (mul-le-mul_right c w)
        (le_of_eq (mul_right_comm (m * up e) (down d) c ∙ ap (λ (z : ℕ). z * down d) h.1 ∙ mul_assoc a (down e) (down d)
        ∙ ap (λ (z : ℕ). a * z) (mul_comm (down e) (down d)))))) (mul-pos (down_pos d) (down_pos e)) in
        omega arith

    go : (r : Bool) → (T r → m * up e * down d < n * up d * down e) → (T (not r) → m * up e * down d < n * up d * down e)
        → m * up e * down d < n * up d * down e
    go true f g = f tt
    go false f g = g tt

-- a number counted in smallest f64s, and in their squares
counted_twice : (x : Float) (n g : ℕ) → HasValue x false n (2 ^ 2148) → HasValue x false g (2 ^ 1074) → n ≡ g * 2 ^ 1074
counted_twice x n g h k =
    eq_of_mul-eq-mul_right (den x) (den_pos x) n (g * 2 ^ 1074)
    (sym (value→cross x n (2 ^ 2148) h) ∙ sym (mul_assoc (num x) (2 ^ 1074) (2 ^ 1074)) ∙ ap (λ (z : ℕ). z * 2 ^ 1074) (value→cross x g (2 ^ 1074) k)
    ∙ mul_right_comm g (den x) (2 ^ 1074))

-- x * (1 + 2 ^ -49), rounded, is not much smaller
record Raised (x : Float) : Type 0 where
  pub f : ℕ
  pub value : HasValue (x ⊗ barely_more) false f (2 ^ 1074)
  pub product : (2 ^ 52 - 1) * (2 ^ 49 + 1) * count_of x ≤ 2 ^ 101 * (f + 1)

raised : (x : Float) → HasValue x false (count_of x) (2 ^ 1074) → T (finite (x ⊗ barely_more)) → Raised x
raised x v r =
    let g = count_of x in
    let e : x ⊗ barely_more ≡ round binary64 false (g * (2 ^ 49 + 1)) (2 ^ 1074 * 2 ^ 49) = product_is x g (2 ^ 49 + 1) (negsuc 48) v in
    let f = grid binary64 (g * (2 ^ 49 + 1)) (2 ^ 1074 * 2 ^ 49) in
    record {
      f = f;
      value = subst (λ (z : Float). HasValue z false f (2 ^ 1074)) (sym e)
          (round_val binary64 _ _ (round_under binary64 _ _ (subst (λ (z : Float). T (finite z)) e r)));
      product = down_product f g (2 ^ 1074) (pow_pos 1074) (not_less (g * (2 ^ 49 + 1)) (2 ^ 1074 * 2 ^ 49) (mul-pos (pow_pos 1074) (pow_pos 49)));
    }
  where
    down_product : (f g t : ℕ) → 0 < t → (2 ^ 52 - 1) * (g * (2 ^ 49 + 1) * t) ≤ 2 ^ 52 * ((f + 1) * (t * 2 ^ 49))
        → (2 ^ 52 - 1) * (2 ^ 49 + 1) * g ≤ 2 ^ 101 * (f + 1)
    down_product f g t p h =
        let a : (2 ^ 52 - 1) * (g * (2 ^ 49 + 1) * t) ≡ (2 ^ 52 - 1) * (2 ^ 49 + 1) * g * t = simp (mul_assoc, mul_comm, mul_left_comm) in
        let b : 2 ^ 52 * ((f + 1) * (t * 2 ^ 49)) ≡ 2 ^ 101 * (f + 1) * t = simp (mul_assoc, mul_comm, mul_left_comm) in
        le_of_mul-le-mul_right {k = t} (le_trans (le_of_eq (sym a)) (le_trans h (le_of_eq b))) p

over_least : (x y : Float) → T (finite x) → T (le least x) → T (le (x ⊗ barely_more) y) → T (le least (x ⊗ barely_more)) × T (le least y)
over_least x y p l h =
    let s = le_on least (least ⊗ barely_more) (x ⊗ barely_more) (unfold mul round le in tt) (mul_up least x barely_more tt p tt l refl) in
    (s, le_on least (x ⊗ barely_more) y s h)

both_finite : (x y : Float) → T (fits binary64 x) → T (fits binary64 y) → T (finite x) → T (finite y) → T (le least x) → T (le (x ⊗ barely_more) y)
    → T (lt (root_of x) (root_of y))
both_finite x y f g p q l h =
    let s = over_least x y p l h in
    let v = plus x f p l in
    let w = plus y g q s.1 in
    let r = raised x v.0 (finite_between least (x ⊗ barely_more) y tt q s.0 h) in
    let over : r.f ≤ count_of y = le_of_mul-le-mul_right (under_of_le (x ⊗ barely_more) y false r.f (2 ^ 1074) false (count_of y) (2 ^ 1074) (pow_pos 1074)
    (pow_pos 1074) r.value w.0 h) (pow_pos 1074) in
    let a = root_nearest x f (positive_of_value x (count_of x) (2 ^ 1074) v.0 (le_trans (lit< tt) v.1)) in
    let b = root_nearest y g (positive_of_value y (count_of y) (2 ^ 1074) w.0 (le_trans (lit< tt) w.1)) in
    let Q = a.q * 2 ^ a.k in
    let L = (2 * a.q - 1) * 2 ^ a.k in
    let U = (2 * b.q + 1) * 2 ^ b.k in
    let m : L * L ≤ 4 * (count_of x * 2 ^ 1074) =
    le_trans (le_of_eq (square_power (2 * a.q - 1) a.k))
    (le_trans (mul-le-mul_right (4 ^ a.k) (le_of_lt a.above))
    (le_of_eq (mul_assoc 4 a.n (4 ^ a.k) ∙ ap (λ (z : ℕ). 4 * z) (counted_twice x (a.n * 4 ^ a.k) (count_of x) a.square v.0)))) in
    let n : 4 * (count_of y * 2 ^ 1074) ≤ U * U =
    le_trans (le_of_eq (ap (λ (z : ℕ). 4 * z) (sym (counted_twice y (b.n * 4 ^ b.k) (count_of y) b.square w.0)) ∙ sym (mul_assoc 4 b.n (4 ^ b.k))))
    (le_trans (mul-le-mul_right (4 ^ b.k) (le_of_lt b.below)) (le_of_eq (sym (square_power (2 * b.q + 1) b.k)))) in
    let not-over : b.q * 2 ^ b.k ≤ Q → ⊥ = λ k.
    never r.f (count_of x) (count_of y)
    (unscaled ((2 ^ 53 - 1) * (2 ^ 53 - 1)) ((2 ^ 53 + 1) * (2 ^ 53 + 1)) (count_of y) (count_of x) (2 ^ 1074) (pow_pos 1074)
    (squares (2 ^ 53 - 1) (2 ^ 53 + 1) (2 ^ 52) Q L U _ _ (lit< tt) (low_side a.q a.k a.digits.0) (high_side b.q b.k Q b.digits.0 k) m n))
    r.product over (le_trans (lit≤ tt) v.1) in
    lt_of_values (root_of x) (root_of y) Q (b.q * 2 ^ b.k) (2 ^ 1074) (pow_pos 1074) a.root b.root
    (go (leb (b.q * 2 ^ b.k) Q) (λ k. absurd (not-over (leb→le _ _ k))) (nleb→lt _ _))
  where
    unscaled : (c C y x t : ℕ) → 0 < t → c * (4 * (y * t)) ≤ C * (4 * (x * t)) → c * y ≤ C * x
    unscaled c C y x t p h =
        le_of_mul-le-mul_right {k = 4 * t}
        (le_trans (le_of_eq (mul_assoc c y (4 * t) ∙ ap (λ (z : ℕ). c * z) (mul_left_comm y 4 t)))
        (le_trans h (le_of_eq (sym (mul_assoc C x (4 * t) ∙ ap (λ (z : ℕ). C * z) (mul_left_comm x 4 t))))))
        (mul-pos (lit< tt) p)

    go : {P : Type 0} (c : Bool) → (T c → P) → (T (not c) → P) → P
    go true a b = a tt
    go false a b = b tt

under_infinite : (w : Float) → T (finite w) → T (lt w (root_of (inf false)))
unfolding root_of lt
under_infinite nan p = absurd p
under_infinite (inf s) p = absurd p
under_infinite (fin s m e) p = tt

pub roots_part : (x y : Float) → T (fits binary64 x) → T (fits binary64 y) → T (le least x) → T (le (x ⊗ barely_more) y) → le y x ≡ false
    → T (lt (root_of x) (root_of y))
roots_part nan y f g l h n = absurd (unfold le lt eq in l)
roots_part (inf true) y f g l h n = absurd (unfold le lt eq in l)
roots_part (inf false) nan f g l h n = absurd (unfold mul le lt eq in h)
roots_part (inf false) (inf true) f g l h n = absurd (unfold mul le lt eq in h)
roots_part (inf false) (inf false) f g l h n = absurd (no (sym (unfold le lt eq in n)))
roots_part (inf false) (fin t k d) f g l h n = absurd (unfold mul le lt eq in h)
roots_part (fin s m e) nan f g l h n = absurd (unfold le lt eq in (over_least (fin s m e) nan tt l h).1)
roots_part (fin s m e) (inf true) f g l h n = absurd (unfold le lt eq in (over_least (fin s m e) (inf true) tt l h).1)
roots_part (fin s m e) (inf false) f g l h n =
    under_infinite (root_of (fin s m e)) (root_finite (fin s m e) f tt (le_on O least (fin s m e) (unfold le lt eq in tt) l)).1
roots_part (fin s m e) (fin t k d) f g l h n = both_finite (fin s m e) (fin t k d) f g tt tt l h

-- ---- as the code has it
barely_is : barely_bits ≡ barely_more
unfolding of_bits
barely_is = refl

pub not_farther : (p q : Float) → T (fits binary64 p) → T (fits binary64 q) → le p q ≡ true → le f0 p ≡ true → false ≡ lt (root_of q) (root_of p)
not_farther p q f g h z =
    let k = roots_rise p q f g (subst (λ (w : Float). T (le w p)) f0_is (holds _ z)) (holds _ h) in
    sym (is_false (lt (root_of q) (root_of p)) (not_T (lt (root_of q) (root_of p)) (λ l. le_not_lt (root_of p) (root_of q) (is_true _ k) (is_true _ l))))

pub farther : (p q : Float) → T (fits binary64 p) → T (fits binary64 q) → le p q ≡ false → le least_bits q ≡ true → le (q ⊗ barely_bits) p ≡ true
    → true ≡ lt (root_of q) (root_of p)
farther p q f g n l h =
    sym (is_true (lt (root_of q) (root_of p)) (roots_part q p g f (subst (λ (w : Float). T (le w q)) least_is (holds _ l))
    (subst (λ (w : Float). T (le (q ⊗ w) p)) barely_is (holds _ h)) n))
