-- Why the check of a candidate is right in 64 bits: s is a * 2 ^ 26 + b, its square is subtracted in three pieces, and each test bounds the next piece.
use Rattle.std.proofs.Common.{◌≡◌, ℕ, ◌+◌, ◌-◌, ◌*◌, ◌/◌, ◌%◌, ◌^◌, ◌<◌, ◌≤◌, sym, refl, ap, ◌∙◌, lt_of_lt_of_le, lt_of_le_of_lt, le_of_lt, mul-le-mul_right, mod-eq_of_lt, mul_right_comm, arith, lit<, lit≤}
use native.Mathlib.Nat.{mul-lt-mul_of_pos_left, mul-mul-mul_comm}
use Rattle.roots.specs.Root.{Nearest}
use Rattle.roots.proofs.Squares.{square_add}

pub mul_lt : (c d : ℕ) {a b : ℕ} → 0 < c → a < c → b < d → a * b < c * d
mul_lt c d {a} {b} z h k = lt_of_le_of_lt (mul-le-mul_right b (le_of_lt h)) (mul-lt-mul_of_pos_left k z)

-- the halves of s
pub high_lt : (s : ℕ) → s < 2 ^ 53 → s / 2 ^ 26 < 2 ^ 27
high_lt s h = omega arith

square_halves : (s : ℕ) → s * s ≡ 2 ^ 52 * (s / 2 ^ 26 * (s / 2 ^ 26)) + 2 ^ 27 * (s / 2 ^ 26 * (s % 2 ^ 26)) + s % 2 ^ 26 * (s % 2 ^ 26)
square_halves s =
    let a = s / 2 ^ 26 in
    let b = s % 2 ^ 26 in
    let e : s ≡ a * 2 ^ 26 + b = omega arith in
    let f : s * s ≡ (a * 2 ^ 26 + b) * (a * 2 ^ 26 + b) = ap (λ (z : ℕ). z * z) e in
    let g : (a * 2 ^ 26 + b) * (a * 2 ^ 26 + b) ≡ a * 2 ^ 26 * (a * 2 ^ 26) + 2 * (a * 2 ^ 26 * b) + b * b = square_add (a * 2 ^ 26) b in
    let h : a * 2 ^ 26 * (a * 2 ^ 26) ≡ a * a * (2 ^ 26 * 2 ^ 26) = mul-mul-mul_comm a (2 ^ 26) a (2 ^ 26) in
    let k : a * 2 ^ 26 * b ≡ a * b * 2 ^ 26 = mul_right_comm a (2 ^ 26) b in
    sums (s * s) _ (a * 2 ^ 26 * (a * 2 ^ 26)) (a * 2 ^ 26 * b) (a * a) (a * b) (b * b) (f ∙ g) refl h k
  where
    sums : (ss u v w aa ab bb : ℕ) → ss ≡ u → u ≡ v + 2 * w + bb → v ≡ aa * (2 ^ 26 * 2 ^ 26) → w ≡ ab * 2 ^ 26 → ss ≡ 2 ^ 52 * aa + 2 ^ 27 * ab + bb
    sums ss u v w aa ab bb e f g h = omega arith

-- The fact of two products that each step needs, of the halves a and b of s: they fit, and b * b is below s.
pub products : (s b : ℕ) → b ≡ s % 2 ^ 26 → 2 ^ 52 ≤ s → s < 2 ^ 53 → (s / 2 ^ 26 * (s / 2 ^ 26) < 2 ^ 54) × (s / 2 ^ 26 * b < 2 ^ 53) × (b * b < s)
products s b e l h =
    let A : s / 2 ^ 26 < 2 ^ 27 = high_lt s h in
    let B : b < 2 ^ 26 = omega arith in
    let C : b * b < 2 ^ 26 * 2 ^ 26 = mul_lt (2 ^ 26) (2 ^ 26) (lit< tt) B B in
    (mul_lt (2 ^ 27) (2 ^ 27) (lit< tt) A A, mul_lt (2 ^ 27) (2 ^ 26) (lit< tt) A B, lt_of_lt_of_le C l)

-- n is m - a * a, d is n * 2 ^ 25 + 2 ^ 26 - a * b, and r is d * 2 ^ 27 + s - b * b - 2 ^ 53 - 1, each as the machine has it
pub checked : (m s b n d r : ℕ) → b ≡ s % 2 ^ 26 → 2 ^ 52 ≤ s → s < 2 ^ 53
    → (n + s / 2 ^ 26 * (s / 2 ^ 26)) % 2 ^ 64 ≡ m → n < 2 ^ 30
    → (d + s / 2 ^ 26 * b) % 2 ^ 64 ≡ n * 2 ^ 25 % 2 ^ 64 + 2 ^ 26 → d < 2 ^ 30
    → (r + (2 ^ 53 + 1)) % 2 ^ 64 ≡ d * 2 ^ 27 % 2 ^ 64 + s - b * b → r < 2 * s
    → Nearest (m * 2 ^ 52) s
checked m s b n d r e l h p P q Q u U =
    let a = s / 2 ^ 26 in
    let z = products s b e l h in
    let ss : s * s ≡ 2 ^ 52 * (a * a) + 2 ^ 27 * (a * b) + b * b =
    square_halves s ∙ ap (λ (x : ℕ). 2 ^ 52 * (a * a) + 2 ^ 27 * (a * x) + x * x) (sym e) in
    let x : n + a * a ≡ m = exact (n + a * a) m (sum_lt n (a * a) (2 ^ 54) P z.0 (lit≤ tt)) p in
    let y : d + a * b ≡ n * 2 ^ 25 + 2 ^ 26 = exact (d + a * b) _ (sum_lt d (a * b) (2 ^ 53) Q z.1 (lit≤ tt)) q ∙ ap (λ (k : ℕ). k + 2 ^ 26) (shifted n P) in
    let t : r + (2 ^ 53 + 1) + b * b ≡ d * 2 ^ 27 + s = last d r s (b * b) h Q z.2 u U in
    record {
      above = above_is m s n d r (a * a) (a * b) (b * b) (s * s) x y t ss;
      below = below_is m s n d r (a * a) (a * b) (b * b) (s * s) x y t ss U;
    }
  where
    exact : (x y : ℕ) → x < 2 ^ 64 → x % 2 ^ 64 ≡ y → x ≡ y
    exact x y h e = sym (mod-eq_of_lt h) ∙ e

    sum_lt : (n x k : ℕ) → n < 2 ^ 30 → x < k → k + 2 ^ 30 ≤ 2 ^ 64 → n + x < 2 ^ 64
    sum_lt n x k a b c = omega arith

    shifted : (n : ℕ) → n < 2 ^ 30 → n * 2 ^ 25 % 2 ^ 64 ≡ n * 2 ^ 25
    shifted n h = omega arith

    last : (d r s bb : ℕ) → s < 2 ^ 53 → d < 2 ^ 30 → bb < s → (r + (2 ^ 53 + 1)) % 2 ^ 64 ≡ d * 2 ^ 27 % 2 ^ 64 + s - bb → r < 2 * s
        → r + (2 ^ 53 + 1) + bb ≡ d * 2 ^ 27 + s
    last d r s bb h Q c u U =
        let e : r + (2 ^ 53 + 1) ≡ d * 2 ^ 27 % 2 ^ 64 + s - bb = exact (r + (2 ^ 53 + 1)) _ (room r s h U) u in
        let f : d * 2 ^ 27 % 2 ^ 64 ≡ d * 2 ^ 27 = double d Q in
        back (r + (2 ^ 53 + 1)) (d * 2 ^ 27) s bb c (e ∙ ap (λ (k : ℕ). k + s - bb) f)
      where
        room : (r s : ℕ) → s < 2 ^ 53 → r < 2 * s → r + (2 ^ 53 + 1) < 2 ^ 64
        room r s a b = omega arith

        double : (d : ℕ) → d < 2 ^ 30 → d * 2 ^ 27 % 2 ^ 64 ≡ d * 2 ^ 27
        double d h = omega arith

        back : (x k s bb : ℕ) → bb < s → x ≡ k + s - bb → x + bb ≡ k + s
        back x k s bb c e = omega arith

    above_is : (m s n d r aa ab bb ss : ℕ) → n + aa ≡ m → d + ab ≡ n * 2 ^ 25 + 2 ^ 26 → r + (2 ^ 53 + 1) + bb ≡ d * 2 ^ 27 + s
        → ss ≡ 2 ^ 52 * aa + 2 ^ 27 * ab + bb → ss < m * 2 ^ 52 + s
    above_is m s n d r aa ab bb ss x y z e = omega arith

    below_is : (m s n d r aa ab bb ss : ℕ) → n + aa ≡ m → d + ab ≡ n * 2 ^ 25 + 2 ^ 26 → r + (2 ^ 53 + 1) + bb ≡ d * 2 ^ 27 + s
        → ss ≡ 2 ^ 52 * aa + 2 ^ 27 * ab + bb → r < 2 * s → m * 2 ^ 52 ≤ ss + s
    below_is m s n d r aa ab bb ss x y z e u = omega arith
