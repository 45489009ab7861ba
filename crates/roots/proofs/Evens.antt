-- The whole number nearest to a root, ties to even: `even_root` is nearest, only one number is, and a larger n has one that is no smaller. No floats here.
use Rattle.std.proofs.Common.{◌≡◌, ℕ, zero, suc, ◌+◌, ◌-◌, ◌*◌, ◌/◌, ◌%◌, ◌^◌, ◌<◌, ◌≤◌, Bool, true, false, cond, ltb, sym, refl, ap, ◌∙◌, subst, le_trans, le_of_eq, lt_of_lt_of_le, le_of_suc-le-suc, lt_of_le_of_lt, lt_irrefl, mul-le-mul_right, mul_assoc, div-lt_iff_lt-mul, add-mul, mul-le-mul, le_antisymm, mul-lt-mul_of_pos_right, lt_of_not-le, div-mul-le_self, le_of_mul-le-mul_right, arith, lit<, lit≤, ltb-false, ltb-true}
use native.Mathlib.Nat.{eq_of_mul-eq-mul_right, lt-div-mul-add}
use Rattle.roots.specs.Root.{whole_root}
use Rattle.roots.proofs.Squares.{square_add, square_twice, whole_root_lem}
use Rattle.roots.specs.Hypot.{NearestEven, even_root}

-- the square of an odd number between those of the even ones beside it
pub odd_square : (r : ℕ) → (2 * r + 1) * (2 * r + 1) ≡ 4 * (r * r) + 4 * r + 1
odd_square r =
    let a = square_add (2 * r) 1 in
    let b = square_twice r in
    omega arith

-- what lies strictly between is nearest
pub strictly : (n c q : ℕ) → (2 * q - 1) * (2 * q - 1) * c < n → n < (2 * q + 1) * (2 * q + 1) * c → NearestEven n c q
strictly n c q a b = record { above = omega arith; below = omega arith; tie_above = λ e. absurd (omega arith); tie_below = λ e. absurd (omega arith) }

-- ---- a larger n has one that is no smaller
squares_up : (p q : ℕ) → p < q → (2 * p + 1) * (2 * p + 1) ≤ (2 * q - 1) * (2 * q - 1)
squares_up p q h = let u : 2 * p + 1 ≤ 2 * q - 1 = omega arith in mul-le-mul u u

same_root : (a b : ℕ) → a * a ≡ b * b → a ≤ b
same_root a b e = le_of_suc-le-suc (lt_of_not-le (λ (g : suc b ≤ a). go g))
  where
    go : suc b ≤ a → ⊥
    go g =
        let x : (b + 1) * (b + 1) ≤ a * a = mul-le-mul (omega arith) (omega arith) in
        let y = square_add b 1 in
        omega arith

pub even_mono : (n m c p q : ℕ) → 0 < c → n ≤ m → NearestEven n c q → NearestEven m c p → q ≤ p
even_mono n m c p q C h a b = le_of_suc-le-suc (lt_of_not-le (λ (g : suc p ≤ q). no g))
  where
    last : (p q : ℕ) → p < q → 2 * q - 1 ≤ 2 * p + 1 → p % 2 ≡ 0 → q % 2 ≡ 0 → ⊥
    last p q g k e f = omega arith

    no : suc p ≤ q → ⊥
    no g =
        let x : (2 * p + 1) * (2 * p + 1) * c ≤ (2 * q - 1) * (2 * q - 1) * c = mul-le-mul_right c (squares_up p q g) in
        let u = a.above in
        let v = b.below in
        let e : (2 * q - 1) * (2 * q - 1) * c ≡ n = omega arith in
        let f : m ≡ (2 * p + 1) * (2 * p + 1) * c = omega arith in
        let s : (2 * q - 1) * (2 * q - 1) * c ≡ (2 * p + 1) * (2 * p + 1) * c = omega arith in
        last p q g (same_root (2 * q - 1) (2 * p + 1) (eq_of_mul-eq-mul_right c C _ _ s)) (b.tie_below f) (a.tie_above e)

pub one_even : (n c p q : ℕ) → 0 < c → NearestEven n c p → NearestEven n c q → p ≡ q
one_even n c p q C a b = le_antisymm (even_mono n n c q p C (omega arith) a b) (even_mono n n c p q C (omega arith) b a)

-- ---- both sides times d
pub scaled : (n c q d : ℕ) → 0 < d → NearestEven n c q → NearestEven (n * d) (c * d) q
scaled n c q d D a =
    let x : (2 * q - 1) * (2 * q - 1) * c * d ≡ (2 * q - 1) * (2 * q - 1) * (c * d) = mul_assoc _ c d in
    let y : (2 * q + 1) * (2 * q + 1) * c * d ≡ (2 * q + 1) * (2 * q + 1) * (c * d) = mul_assoc _ c d in
    record {
      above = le_trans (le_of_eq (sym x)) (mul-le-mul_right d a.above);
      below = le_trans (mul-le-mul_right d a.below) (le_of_eq y);
      tie_above = λ e. a.tie_above (eq_of_mul-eq-mul_right d D _ _ (x ∙ e));
      tie_below = λ e. a.tie_below (eq_of_mul-eq-mul_right d D _ _ (e ∙ sym y));
    }

pub unscaled : (n c q d : ℕ) → 0 < d → NearestEven (n * d) (c * d) q → NearestEven n c q
unscaled n c q d D a =
    let x : (2 * q - 1) * (2 * q - 1) * c * d ≡ (2 * q - 1) * (2 * q - 1) * (c * d) = mul_assoc _ c d in
    let y : (2 * q + 1) * (2 * q + 1) * c * d ≡ (2 * q + 1) * (2 * q + 1) * (c * d) = mul_assoc _ c d in
    record {
      above = le_of_mul-le-mul_right (le_trans (le_of_eq x) a.above) D;
      below = le_of_mul-le-mul_right (le_trans a.below (le_of_eq (sym y))) D;
      tie_above = λ e. a.tie_above (sym x ∙ ap (λ (z : ℕ). z * d) e);
      tie_below = λ e. a.tie_below (ap (λ (z : ℕ). z * d) e ∙ y);
    }

-- ---- how many digits
pub even_ge : (n c q : ℕ) → 0 < c → 2 ^ 106 * c ≤ n → NearestEven n c q → 2 ^ 52 ≤ q
even_ge n c q C h a = le_of_suc-le-suc (lt_of_not-le (λ (g : suc q ≤ 2 ^ 52). no g))
  where
    no : suc q ≤ 2 ^ 52 → ⊥
    no g =
        let u : 2 * q + 1 ≤ 2 ^ 53 - 1 = omega arith in
        lt_irrefl n (lt_of_le_of_lt (le_trans a.below (mul-le-mul_right c (mul-le-mul u u))) (lt_of_lt_of_le (mul-lt-mul_of_pos_right (lit< tt) C) h))

pub even_le : (n c q : ℕ) → 0 < c → n < 2 ^ 108 * c → NearestEven n c q → q ≤ 2 ^ 53
even_le n c q C h a = le_of_suc-le-suc (lt_of_not-le (λ (g : suc (2 ^ 53) ≤ q). no g))
  where
    no : suc (2 ^ 53) ≤ q → ⊥
    no g =
        let u : 2 ^ 54 + 1 ≤ 2 * q - 1 = omega arith in
        let x : 2 ^ 108 ≤ (2 ^ 54 + 1) * (2 ^ 54 + 1) = lit≤ tt in
        lt_irrefl n (lt_of_lt_of_le h (le_trans (mul-le-mul_right c (le_trans x (mul-le-mul u u))) a.above))

-- ---- of r and r + 1, where the root lies between them
module _ (n c r : ℕ) (C : 0 < c) (lo : 2 * r * (2 * r) * c ≤ n) (hi : n < 2 * (r + 1) * (2 * (r + 1)) * c) where
  abbrev mid : ℕ
  mid = (2 * r + 1) * (2 * r + 1) * c

  less : (2 * r - 1) * (2 * r - 1) * c ≤ 2 * r * (2 * r) * c
  less = let u : 2 * r - 1 ≤ 2 * r = omega arith in mul-le-mul_right c (mul-le-mul u u)

  -- at r itself: if the lower end is met, r is 0
  lower_tie : (2 * r - 1) * (2 * r - 1) * c ≡ n → r % 2 ≡ 0
  lower_tie e =
      let x = less in
      let s : 2 * r * (2 * r) * c ≡ (2 * r - 1) * (2 * r - 1) * c = omega arith in
      none r (same_root (2 * r) (2 * r - 1) (eq_of_mul-eq-mul_right c C _ _ s))
    where
      none : (r : ℕ) → 2 * r ≤ 2 * r - 1 → r % 2 ≡ 0
      none r h = omega arith

  pub down : n ≤ mid → (n ≡ mid → r % 2 ≡ 0) → NearestEven n c r
  down h e = record { above = le_trans less lo; below = h; tie_above = lower_tie; tie_below = e }

  pub up : mid ≤ n → (mid ≡ n → (r + 1) % 2 ≡ 0) → NearestEven n c (r + 1)
  up h e =
      let s : 2 * r + 1 ≡ 2 * (r + 1) - 1 = omega arith in
      let t : mid ≡ (2 * (r + 1) - 1) * (2 * (r + 1) - 1) * c = ap (λ (z : ℕ). z * z * c) s in
      let u : 2 * (r + 1) ≤ 2 * (r + 1) + 1 = omega arith in
      let x : 2 * (r + 1) * (2 * (r + 1)) * c ≤ (2 * (r + 1) + 1) * (2 * (r + 1) + 1) * c = mul-le-mul_right c (mul-le-mul u u) in
      record { above = le_trans (le_of_eq (sym t)) h; below = omega arith; tie_above = λ f. e (t ∙ f); tie_below = λ f. absurd (omega arith) }

  ties : (b : ℕ) → b < 2 → r % 2 ≡ b → n ≡ mid → NearestEven n c (r + b)
  ties zero B f h = subst (λ (z : ℕ). NearestEven n c z) (omega arith) (down (le_of_eq h) (λ g. f))
  ties (suc zero) B f h = up (le_of_eq (sym h)) (λ g. omega arith)
  ties (suc (suc b)) B f h = absurd (omega arith)

  pub tie : n ≡ mid → NearestEven n c (r + r % 2)
  tie h = ties (r % 2) (omega arith) refl h

  pub even_of_lem : NearestEven n c (cond (ltb n mid) r (cond (ltb mid n) (r + 1) (r + r % 2)))
  even_of_lem = go (ltb n mid) (ltb mid n) refl refl
    where
      low : (a b : ℕ) → a < b → a ≤ b
      low a b h = omega arith

      not_eq : (a b : ℕ) → a < b → a ≡ b → ⊥
      not_eq a b h e = omega arith

      level : (a b : ℕ) → b ≤ a → a ≤ b → a ≡ b
      level a b h k = omega arith

      go : (s t : Bool) → ltb n mid ≡ s → ltb mid n ≡ t → NearestEven n c (cond s r (cond t (r + 1) (r + r % 2)))
      go true t e f = let h = ltb-true _ _ e in down (low _ _ h) (λ g. absurd (not_eq _ _ h g))
      go false true e f = let h = ltb-true _ _ f in up (low _ _ h) (λ g. absurd (not_eq _ _ h g))
      go false false e f = tie (level _ _ (ltb-false _ _ e) (ltb-false _ _ f))

-- ---- `even_root` is nearest
pub even_root_lem : (n k : ℕ) → 0 < 4 ^ k → n < 4 ^ 53 * 4 ^ k → NearestEven (4 * n) (4 ^ k) (even_root n k)
unfolding even_root
even_root_lem n k C h =
    let c = 4 ^ k in
    let m = n / c in
    let w = whole_root_lem 53 m ((div-lt_iff_lt-mul C).1 h) in
    let r = whole_root 53 m in
    let a : r * r * c ≤ n = le_trans (mul-le-mul_right c w.0) (div-mul-le_self n c) in
    let b : n < (r + 1) * (r + 1) * c = lt_of_lt_of_le (lt-div-mul-add C) (le_trans (le_of_eq (step m c)) (mul-le-mul_right c w.1)) in
    let x = four r c in
    let y = four (r + 1) c in
    even_of_lem (4 * n) c r C (omega arith) (omega arith)
  where
    step : (m c : ℕ) → m * c + c ≡ suc m * c
    step m c = let e = add-mul m 1 c in omega arith

    four : (r c : ℕ) → 2 * r * (2 * r) * c ≡ 4 * (r * r * c)
    four r c = ap (λ (z : ℕ). z * c) (square_twice r) ∙ mul_assoc 4 (r * r) c
