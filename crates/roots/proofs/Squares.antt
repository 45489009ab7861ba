-- Roots of whole numbers: `whole_root` is the whole part, `nearest_root` is nearest by squares, and only one number is. No floats here.
use Rattle.std.proofs.Common.{◌≡◌, ℕ, zero, suc, ◌+◌, ◌-◌, ◌*◌, ◌/◌, ◌^◌, ◌<◌, ◌≤◌, Bool, true, false, cond, not, T, leb, ap, ◌∙◌, subst, le_of_suc-le-suc, mul_assoc, mul_comm, add-mul, mul-le-mul, le_antisymm, lt_of_not-le, mul-add, mul_left_comm, arith, leb→le}
use native.Mathlib.Nat.{pow-succ'}
use lib.Dec.{nleb→lt}
use Rattle.roots.specs.Root.{whole_root, nearest_root, Nearest}

-- ---- squares of sums, for `omega`, which takes a product of two variables as a number of its own
pub square_add : (a b : ℕ) → (a + b) * (a + b) ≡ a * a + 2 * (a * b) + b * b
square_add a b =
    let x : (a + b) * (a + b) ≡ a * (a + b) + b * (a + b) = add-mul a b (a + b) in
    let y : a * (a + b) ≡ a * a + a * b = mul-add a a b in
    let z : b * (a + b) ≡ b * a + b * b = mul-add b a b in
    let w : b * a ≡ a * b = mul_comm b a in
    omega arith

pub square_twice : (a : ℕ) → 2 * a * (2 * a) ≡ 4 * (a * a)
square_twice a =
    let x : 2 * a * (2 * a) ≡ 2 * (a * (2 * a)) = mul_assoc 2 a (2 * a) in
    let y : a * (2 * a) ≡ 2 * (a * a) = mul_left_comm a 2 a in
    omega arith

-- ---- the whole root
root_step : (w n : ℕ) → w * w ≤ n / 4 → n / 4 < (w + 1) * (w + 1) → (2 * w * (2 * w) ≤ n) × (n < (2 * w + 1 + 1) * (2 * w + 1 + 1))
root_step w n h k =
    let a : (w + 1) * (w + 1) ≡ w * w + 2 * (w * 1) + 1 * 1 = square_add w 1 in
    let b : 2 * w * (2 * w) ≡ 4 * (w * w) = square_twice w in
    let c : (2 * w + 1 + 1) * (2 * w + 1 + 1) ≡ (2 * w + 1) * (2 * w + 1) + 2 * ((2 * w + 1) * 1) + 1 * 1 = square_add (2 * w + 1) 1 in
    let d : (2 * w + 1) * (2 * w + 1) ≡ 2 * w * (2 * w) + 2 * (2 * w * 1) + 1 * 1 = square_add (2 * w) 1 in
    (omega arith, omega arith)

pub whole_root_lem : (d n : ℕ) → n < 4 ^ d → (whole_root d n * whole_root d n ≤ n) × (n < (whole_root d n + 1) * (whole_root d n + 1))
unfolding whole_root
whole_root_lem zero n h = (omega arith, omega arith)
whole_root_lem (suc d) n h =
    let i = whole_root_lem d (n / 4) (quarter n (4 ^ d) (subst (λ (x : ℕ). n < x) (pow-succ' 4 d) h)) in
    let r = 2 * whole_root d (n / 4) in
    go r (leb ((r + 1) * (r + 1)) n) (root_step (whole_root d (n / 4)) n i.0 i.1)
    (leb→le ((r + 1) * (r + 1)) n) (nleb→lt ((r + 1) * (r + 1)) n)
  where
    quarter : (n p : ℕ) → n < 4 * p → n / 4 < p
    quarter n p h = omega arith

    go : (r : ℕ) (b : Bool) → (r * r ≤ n) × (n < (r + 1 + 1) * (r + 1 + 1)) → (T b → (r + 1) * (r + 1) ≤ n) → (T (not b) → n < (r + 1) * (r + 1))
        → (cond b (r + 1) r * cond b (r + 1) r ≤ n) × (n < (cond b (r + 1) r + 1) * (cond b (r + 1) r + 1))
    go r true e p q = (p tt, e.1)
    go r false e p q = (e.0, q tt)

-- ---- the nearest root
near_down : (r n : ℕ) → 0 < n → r * r ≤ n → n ≤ r * r + r → Nearest n r
near_down zero n z h k = record { above = omega arith; below = k }
near_down (suc r) n z h k = record { above = omega arith; below = k }

near_up : (r n : ℕ) → r * r + r < n → n < (r + 1) * (r + 1) → Nearest n (r + 1)
near_up r n h k =
    let a : (r + 1) * (r + 1) ≡ r * r + 2 * (r * 1) + 1 * 1 = square_add r 1 in
    record { above = omega arith; below = omega arith }

pub nearest_root_lem : (n : ℕ) → 0 < n → n < 4 ^ 53 → Nearest n (nearest_root n)
unfolding nearest_root
nearest_root_lem n z h =
    let r = whole_root 53 n in
    let w = whole_root_lem 53 n h in
    go r (leb n (r * r + r)) w.0 w.1 (leb→le n (r * r + r)) (nleb→lt n (r * r + r))
  where
    go : (r : ℕ) (b : Bool) → r * r ≤ n → n < (r + 1) * (r + 1) → (T b → n ≤ r * r + r) → (T (not b) → r * r + r < n) → Nearest n (cond b r (r + 1))
    go r true a b p q = near_down r n z a (p tt)
    go r false a b p q = near_up r n (q tt) b

-- there is one only
not_below_lem : (n p q : ℕ) → Nearest n p → Nearest n q → p < q → ⊥
not_below_lem n p q a b h =
    let d = q - p - 1 in
    let e : q ≡ p + 1 + d = omega arith in
    let x : q * q ≡ (p + 1) * q + d * q = ap (λ (z : ℕ). z * q) e ∙ add-mul (p + 1) d q in
    let y : (p + 1) * q ≡ p * q + 1 * q = add-mul p 1 q in
    let z : p * q ≡ p * (p + 1) + p * d = ap (λ (z : ℕ). p * z) e ∙ mul-add p (p + 1) d in
    let w : p * (p + 1) ≡ p * p + p * 1 = mul-add p p 1 in
    let u = a.below in
    let v = b.above in
    omega arith

pub one_nearest : {n p q : ℕ} → Nearest n p → Nearest n q → p ≡ q
one_nearest {n} {p} {q} a b =
    le_antisymm (le_of_suc-le-suc (lt_of_not-le (λ h. not_below_lem n q p b a h))) (le_of_suc-le-suc (lt_of_not-le (λ h. not_below_lem n p q a b h)))

pub is_nearest_root : {n q : ℕ} → 0 < n → n < 4 ^ 53 → Nearest n q → q ≡ nearest_root n
is_nearest_root {n} z h a = one_nearest a (nearest_root_lem n z h)

-- ---- how many digits it has
pub nearest-ge : {n q : ℕ} → Nearest n q → 2 ^ 104 ≤ n → 2 ^ 52 ≤ q
nearest-ge {n} {q} a h = le_of_suc-le-suc (lt_of_not-le (λ (g : suc q ≤ 2 ^ 52). small g))
  where
    small : q < 2 ^ 52 → ⊥
    small g =
        let u : q ≤ 2 ^ 52 - 1 = omega arith in
        let v : q + 1 ≤ 2 ^ 52 = omega arith in
        let x : q * (q + 1) ≤ (2 ^ 52 - 1) * 2 ^ 52 = mul-le-mul u v in
        let y : q * (q + 1) ≡ q * q + q * 1 = mul-add q q 1 in
        let z = a.below in
        omega arith

pub nearest_lt : {n q : ℕ} → Nearest n q → n + 2 ^ 53 ≤ 2 ^ 106 → q < 2 ^ 53
nearest_lt {n} {q} a h = lt_of_not-le (λ (g : 2 ^ 53 ≤ q). big g)
  where
    back : (q : ℕ) → 2 ^ 53 ≤ q → q ≡ q - 1 + 1
    back q h = omega arith

    big : 2 ^ 53 ≤ q → ⊥
    big g =
        let u : 2 ^ 53 - 1 ≤ q - 1 = omega arith in
        let x : 2 ^ 53 * (2 ^ 53 - 1) ≤ q * (q - 1) = mul-le-mul g u in
        let y : q * q ≡ q * (q - 1) + q * 1 = ap (λ (z : ℕ). q * z) (back q g) ∙ mul-add q (q - 1) 1 in
        let z = a.above in
        omega arith
