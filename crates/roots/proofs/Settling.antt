-- Why the check of a candidate is right in 64 bits: 2 * s is a * 2 ^ 27 + b, its square is subtracted in three pieces, and each test bounds the next piece.
use Rattle.std.proofs.Common.{◌≡◌, ℕ, zero, suc, ◌+◌, ◌-◌, ◌*◌, ◌/◌, ◌%◌, ◌^◌, ◌<◌, ◌≤◌, ◌⊎◌, sym, ap, ◌∙◌, subst, inl, inr, le_of_eq, lt_of_lt_of_le, lt_of_le_of_lt, mul-le-mul_right, mod-eq_of_lt, mul_assoc, mul_comm, add-mul, lt_of_mul-lt-mul_right, mul-lt-mul_of_pos_right, pow-suc, div-add-mod', mul-one, mul_right_comm, arith, lit<, pow_pos, pow-add}
use native.Mathlib.Nat.{mul-mul-mul_comm}
use native.Mathlib.Nat.{mul-div-mul_right}
use lib.Bits.{bit_and, and_mask}
use Rattle.roots.proofs.Squares.{square_add, square_twice}
use Rattle.roots.proofs.Halves.{mul_lt}
use Rattle.roots.proofs.Units.{four}
use Rattle.roots.specs.Inside.{Settled}
use Rattle.roots.proofs.Evens.{odd_square}
use Rattle.roots.proofs.Lowering.{square_parts}

-- ---- the check
-- the products of the parts a and 2 * b of 2 * s
pub record Parts (s b : ℕ) : Type 0 where
  pub high : s / 2 ^ 26 * (s / 2 ^ 26) < 2 ^ 54
  pub cross : s / 2 ^ 26 * (2 * b) < 2 ^ 54
  pub low : 2 * b * (2 * b) < 2 ^ 54
  pub square : 4 * (s * s) ≡ s / 2 ^ 26 * (s / 2 ^ 26) * 2 ^ 54 + s / 2 ^ 26 * (2 * b) * 2 ^ 28 + 2 * b * (2 * b)

pub parts : (s b : ℕ) → b ≡ s % 2 ^ 26 → s < 2 ^ 53 → Parts s b
parts s b e h =
    let a = s / 2 ^ 26 in
    let A : a < 2 ^ 27 = omega arith in
    let B : 2 * b < 2 ^ 27 = omega arith in
    let f : 2 * s ≡ a * 2 ^ 27 + 2 * b = omega arith in
    let g : 2 * s * (2 * s) ≡ a * a * (2 ^ 27 * 2 ^ 27) + 2 * (a * (2 * b) * 2 ^ 27) + 2 * b * (2 * b) = ap (λ (z : ℕ). z * z) f
    ∙ square_parts a (2 * b) (2 ^ 27) in
    record {
      high = mul_lt (2 ^ 27) (2 ^ 27) (lit< tt) A A;
      cross = mul_lt (2 ^ 27) (2 ^ 27) (lit< tt) A B;
      low = mul_lt (2 ^ 27) (2 ^ 27) (lit< tt) B B;
      square = go (a * a) (a * (2 * b)) (2 * b * (2 * b)) (2 * s * (2 * s)) (s * s) g (square_twice s);
    }
  where
    go : (aa ab bb t ss : ℕ) → t ≡ aa * (2 ^ 27 * 2 ^ 27) + 2 * (ab * 2 ^ 27) + bb → t ≡ 4 * ss → 4 * ss ≡ aa * 2 ^ 54 + ab * 2 ^ 28 + bb
    go aa ab bb t ss e f = omega arith

exact : (x y : ℕ) → x < 2 ^ 64 → x % 2 ^ 64 ≡ y → x ≡ y
exact x y h e = sym (mod-eq_of_lt h) ∙ e

-- high, d, u and t are the four differences, as the machine has them
module _ (c2 c1 c0 s b high d u e t : ℕ) (p : Parts s b) (L : 2 ^ 52 ≤ s) (S : s < 2 ^ 53) where
  abbrev a : ℕ
  a = s / 2 ^ 26

  first : (high + a * a) % 2 ^ 64 ≡ c2 + 2 ^ 30 → high < 2 ^ 31 → high + a * a ≡ c2 + 2 ^ 30
  first h k = exact (high + a * a) (c2 + 2 ^ 30) (go high (a * a) k p.high) h
    where
      go : (h x : ℕ) → h < 2 ^ 31 → x < 2 ^ 54 → h + x < 2 ^ 64
      go h x k l = omega arith

  second : (d + (a * (2 * b) + (2 ^ 56 - 2 ^ 31))) % 2 ^ 64 ≡ high * 2 ^ 26 % 2 ^ 64 + c1 → high < 2 ^ 31 → d < 2 ^ 32
      → d + (a * (2 * b) + (2 ^ 56 - 2 ^ 31)) ≡ high * 2 ^ 26 + c1
  second h k l = exact _ _ (go d (a * (2 * b)) l p.cross) h ∙ ap (λ (z : ℕ). z + c1) (small high k)
    where
      go : (d x : ℕ) → d < 2 ^ 32 → x < 2 ^ 54 → d + (x + (2 ^ 56 - 2 ^ 31)) < 2 ^ 64
      go d x k l = omega arith

      small : (h : ℕ) → h < 2 ^ 31 → h * 2 ^ 26 % 2 ^ 64 ≡ h * 2 ^ 26
      small h k = omega arith

  fourth : (t + 2 ^ 30) % 2 ^ 64 ≡ u - e * (8 * s) → e * (8 * s) ≤ u → t < 8 * s - 2 ^ 31 → u ≡ e * (8 * s) + t + 2 ^ 30
  fourth h k l = go t s u (e * (8 * s)) S l k (exact (t + 2 ^ 30) (u - e * (8 * s)) (room t s S l) h)
    where
      room : (t s : ℕ) → s < 2 ^ 53 → t < 8 * s - 2 ^ 31 → t + 2 ^ 30 < 2 ^ 64
      room t s h l = omega arith

      go : (t s u x : ℕ) → s < 2 ^ 53 → t < 8 * s - 2 ^ 31 → x ≤ u → t + 2 ^ 30 ≡ u - x → u ≡ x + t + 2 ^ 30
      go t s u x h l k e = omega arith

  third : (u + (2 * b * (2 * b) + 2 ^ 59)) % 2 ^ 64 ≡ d * 2 ^ 28 % 2 ^ 64 + c0 + 12 * s → d < 2 ^ 32 → u < 2 ^ 60
      → u + (2 * b * (2 * b) + 2 ^ 59) ≡ d * 2 ^ 28 + c0 + 12 * s
  third h k l = exact _ _ (go u (2 * b * (2 * b)) l p.low) h ∙ ap (λ (z : ℕ). z + c0 + 12 * s) (small d k)
    where
      go : (u x : ℕ) → u < 2 ^ 60 → x < 2 ^ 54 → u + (x + 2 ^ 59) < 2 ^ 64
      go u x k l = omega arith

      small : (d : ℕ) → d < 2 ^ 32 → d * 2 ^ 28 % 2 ^ 64 ≡ d * 2 ^ 28
      small d k = omega arith

  abbrev B : ℕ
  B = c2 * 2 ^ 54 + c1 * 2 ^ 28 + c0

  together : high + a * a ≡ c2 + 2 ^ 30 → d + (a * (2 * b) + (2 ^ 56 - 2 ^ 31)) ≡ high * 2 ^ 26 + c1 → u + (2 * b * (2 * b) + 2 ^ 59) ≡ d * 2 ^ 28 + c0 + 12 * s
      → B + 12 * s ≡ 4 * (s * s) + u
  together f g h = step₂ c2 c1 c0 s high d u (a * a) (a * (2 * b)) (2 * b * (2 * b)) (s * s) f (step₁ high d c1 (a * (2 * b)) g) h p.square
    where
      step₁ : (high d c1 ab : ℕ) → d + (ab + (2 ^ 56 - 2 ^ 31)) ≡ high * 2 ^ 26 + c1
          → d * 2 ^ 28 + ab * 2 ^ 28 + (2 ^ 84 - 2 ^ 59) ≡ high * 2 ^ 54 + c1 * 2 ^ 28
      step₁ high d c1 ab e = omega arith

      step₂ : (c2 c1 c0 s high d u aa ab bb ss : ℕ) → high + aa ≡ c2 + 2 ^ 30 → d * 2 ^ 28 + ab * 2 ^ 28 + (2 ^ 84 - 2 ^ 59) ≡ high * 2 ^ 54 + c1 * 2 ^ 28
          → u + (bb + 2 ^ 59) ≡ d * 2 ^ 28 + c0 + 12 * s → 4 * ss ≡ aa * 2 ^ 54 + ab * 2 ^ 28 + bb → c2 * 2 ^ 54 + c1 * 2 ^ 28 + c0 + 12 * s ≡ 4 * ss + u
      step₂ c2 c1 c0 s high d u aa ab bb ss f g h k = omega arith

  -- the squares of the middles, by that of s
  middle : (j : ℕ) → (q : ℕ) → (2 * (q + j) + 1) * (2 * (q + j) + 1) ≡ 4 * (q * q + 2 * (q * j) + j * j) + 4 * (q + j) + 1
  middle j q = odd_square (q + j) ∙ ap (λ (z : ℕ). 4 * z + 4 * (q + j) + 1) (square_add q j)

  square_of_lem : s * s ≡ (s - 2) * (s - 2) + 4 * (s - 2) + 4
  square_of_lem = let f : s ≡ s - 2 + 2 = omega arith in let g = square_add (s - 2) 2 in
      let h : s * s ≡ (s - 2 + 2) * (s - 2 + 2) = ap (λ (z : ℕ). z * z) f in omega arith

  Good : ℕ → Type 0
  Good r = (0 < r) × ((2 * r - 1) * (2 * r - 1) < B) × (B + 2 ^ 29 ≤ (2 * r + 1) * (2 * r + 1))

  good : (e : ℕ) → e ≤ 2 → B + 12 * s ≡ 4 * (s * s) + (e * (8 * s) + t + 2 ^ 30) → t < 8 * s - 2 ^ 31 → Good (s - 1 + e)
  unfolding Good
  good e E h l = pick e E h
    where
      -- with q one below the result
      at : (r q p : ℕ) → r ≡ q + 1 → r ≡ p → (2 * q + 1) * (2 * q + 1) < B → B + 2 ^ 29 ≤ (2 * p + 1) * (2 * p + 1) → Good r
      at r q p f f' x y =
          let g : 2 * q + 1 ≡ 2 * r - 1 = omega arith in
          (omega arith, subst (λ (z : ℕ). z * z < B) g x, subst (λ (z : ℕ). B + 2 ^ 29 ≤ (2 * z + 1) * (2 * z + 1)) (sym f') y)

      pick : (e : ℕ) → e ≤ 2 → B + 12 * s ≡ 4 * (s * s) + (e * (8 * s) + t + 2 ^ 30) → Good (s - 1 + e)
      pick zero E h = let m₀ = middle 0 (s - 2) in let m₁ = middle 1 (s - 2) in let q = square_of_lem in
          at (s - 1 + 0) (s - 2 + 0) (s - 2 + 1) (omega arith) (omega arith) (omega arith) (omega arith)
      pick (suc zero) E h = let m₁ = middle 1 (s - 2) in let m₂ = middle 2 (s - 2) in let q = square_of_lem in
          at (s - 1 + 1) (s - 2 + 1) (s - 2 + 2) (omega arith) (omega arith) (omega arith) (omega arith)
      pick (suc (suc zero)) E h = let m₂ = middle 2 (s - 2) in let m₃ = middle 3 (s - 2) in let q = square_of_lem in
          at (s - 1 + 2) (s - 2 + 2) (s - 2 + 3) (omega arith) (omega arith) (omega arith) (omega arith)
      pick (suc (suc (suc e))) E h = absurd (omega arith)

  pub settles : (high + a * a) % 2 ^ 64 ≡ c2 + 2 ^ 30 → high < 2 ^ 31
      → (d + (a * (2 * b) + (2 ^ 56 - 2 ^ 31))) % 2 ^ 64 ≡ high * 2 ^ 26 % 2 ^ 64 + c1 → d < 2 ^ 32
      → (u + (2 * b * (2 * b) + 2 ^ 59)) % 2 ^ 64 ≡ d * 2 ^ 28 % 2 ^ 64 + c0 + 12 * s
      → e ≤ 2 → e * (8 * s) ≤ u → (t + 2 ^ 30) % 2 ^ 64 ≡ u - e * (8 * s) → t < 8 * s - 2 ^ 31
      → (0 < s - 1 + e) × ((2 * (s - 1 + e) - 1) * (2 * (s - 1 + e) - 1) < B) × (B + 2 ^ 29 ≤ (2 * (s - 1 + e) + 1) * (2 * (s - 1 + e) + 1))
  unfolding Good
  settles h₁ l₁ h₂ l₂ h₃ E k h₄ l₄ =
      let v = fourth h₄ k l₄ in
      let w : e * (8 * s) ≤ 2 * (8 * s) = mul-le-mul_right (8 * s) E in
      let m : u < 2 ^ 60 = few u (e * (8 * s)) s t v w l₄ S in
      good e E (together (first h₁ l₁) (second h₂ l₁ l₂) (third h₃ l₂ m) ∙ ap (λ (z : ℕ). 4 * (s * s) + z) v) l₄
    where
      few : (u x s t : ℕ) → u ≡ x + t + 2 ^ 30 → x ≤ 2 * (8 * s) → t < 8 * s - 2 ^ 31 → s < 2 ^ 53 → u < 2 ^ 60
      few u x s t e h k l = omega arith

-- ---- the columns: x and u in parts of 27 digits
pub record Columns (x u f x0 u0 : ℕ) : Type 0 where
  pub xx : x / 2 ^ 27 * (x / 2 ^ 27) < 2 ^ 54
  pub xy : x / 2 ^ 27 * x0 < 2 ^ 54
  pub yy : x0 * x0 < 2 ^ 54
  pub uu : u / 2 ^ 27 * (u / 2 ^ 27) < 2 ^ 54
  pub uv : u / 2 ^ 27 * u0 < 2 ^ 54
  pub vv : u0 * u0 < 2 ^ 54
  pub uf : u / 2 ^ 27 * f < 2 ^ 54
  pub vf : u0 * f < 2 ^ 54
  pub ff : f * f < 2 ^ 54
  pub sum : x * x * 2 ^ 54 + (u * 2 ^ 27 + f) * (u * 2 ^ 27 + f)
      ≡ ((x / 2 ^ 27 * (x / 2 ^ 27) + u / 2 ^ 27 * (u / 2 ^ 27)) * 2 ^ 54 + (x / 2 ^ 27 * x0 + u / 2 ^ 27 * u0) * 2 ^ 28
      + (x0 * x0 + u0 * u0 + 2 * (u / 2 ^ 27 * f))) * 2 ^ 54
      + (u0 * f * 2 ^ 28 + f * f)

pub columned : (x u f x0 u0 : ℕ) → x0 ≡ x % 2 ^ 27 → u0 ≡ u % 2 ^ 27 → x < 2 ^ 54 → u < 2 ^ 54 → f < 2 ^ 27 → Columns x u f x0 u0
columned x u f x0 u0 e g X U F =
    let x1 = x / 2 ^ 27 in
    let u1 = u / 2 ^ 27 in
    let X1 : x1 < 2 ^ 27 = omega arith in
    let X0 : x0 < 2 ^ 27 = omega arith in
    let U1 : u1 < 2 ^ 27 = omega arith in
    let U0 : u0 < 2 ^ 27 = omega arith in
    let ex : x ≡ x1 * 2 ^ 27 + x0 = omega arith in
    let eu : u ≡ u1 * 2 ^ 27 + u0 = omega arith in
    let sx : x * x ≡ x1 * x1 * (2 ^ 27 * 2 ^ 27) + 2 * (x1 * x0 * 2 ^ 27) + x0 * x0 = ap (λ (z : ℕ). z * z) ex ∙ square_parts x1 x0 (2 ^ 27) in
    let su : u * u ≡ u1 * u1 * (2 ^ 27 * 2 ^ 27) + 2 * (u1 * u0 * 2 ^ 27) + u0 * u0 = ap (λ (z : ℕ). z * z) eu ∙ square_parts u1 u0 (2 ^ 27) in
    let uf : u * f ≡ u1 * 2 ^ 27 * f + u0 * f = ap (λ (z : ℕ). z * f) eu ∙ add-mul (u1 * 2 ^ 27) u0 f in
    let uf' : u1 * 2 ^ 27 * f ≡ u1 * f * 2 ^ 27 = mul_right_comm u1 (2 ^ 27) f in
    record {
      xx = lt X1 X1;
      xy = lt X1 X0;
      yy = lt X0 X0;
      uu = lt U1 U1;
      uv = lt U1 U0;
      vv = lt U0 U0;
      uf = lt U1 F;
      vf = lt U0 F;
      ff = lt F F;
      sum = total (x * x) (u * u) (u * f) _ (x1 * x1) (x1 * x0) (x0 * x0) (u1 * u1) (u1 * u0) (u0 * u0) (u1 * f) (u0 * f) (f * f)
          (halves (x * x) (u * u) (x1 * x1) (x1 * x0) (x0 * x0) (u1 * u1) (u1 * u0) (u0 * u0) sx su) (uf ∙ ap (λ (z : ℕ). z + u0 * f) uf')
          (square_parts u f (2 ^ 27));
    }
  where
    lt : {a b : ℕ} → a < 2 ^ 27 → b < 2 ^ 27 → a * b < 2 ^ 54
    lt A B = mul_lt (2 ^ 27) (2 ^ 27) (lit< tt) A B

    halves : (xx uu a b c p q r : ℕ) → xx ≡ a * (2 ^ 27 * 2 ^ 27) + 2 * (b * 2 ^ 27) + c → uu ≡ p * (2 ^ 27 * 2 ^ 27) + 2 * (q * 2 ^ 27) + r
        → xx + uu ≡ (a + p) * 2 ^ 54 + (b + q) * 2 ^ 28 + (c + r)
    halves xx uu a b c p q r e f = omega arith

    lifted : (xx uu B : ℕ) → xx + uu ≡ B → xx * 2 ^ 54 + uu * 2 ^ 54 ≡ B * 2 ^ 54
    lifted xx uu B e = omega arith

    last : (s t w B uuu ufl f2 rest ff : ℕ) → s + uuu ≡ B → w ≡ uuu + 2 * (ufl * 2 ^ 27) + ff → ufl ≡ f2 * 2 ^ 27 + rest
        → s + w ≡ B + f2 * 2 ^ 55 + (rest * 2 ^ 28 + ff)
    last s t w B uuu ufl f2 rest ff a b c = omega arith

    spread : (B f2 L : ℕ) → B * 2 ^ 54 + f2 * 2 ^ 55 + L ≡ (B + 2 * f2) * 2 ^ 54 + L
    spread B f2 L = omega arith

    total : (xx uu uf w a b c p q r f2 rest ff : ℕ) → xx + uu ≡ (a + p) * 2 ^ 54 + (b + q) * 2 ^ 28 + (c + r) → uf ≡ f2 * 2 ^ 27 + rest
        → w ≡ uu * (2 ^ 27 * 2 ^ 27) + 2 * (uf * 2 ^ 27) + ff
        → xx * 2 ^ 54 + w ≡ ((a + p) * 2 ^ 54 + (b + q) * 2 ^ 28 + (c + r + 2 * f2)) * 2 ^ 54 + (rest * 2 ^ 28 + ff)
    total xx uu uf w a b c p q r f2 rest ff e g h =
        last (xx * 2 ^ 54) 0 w _ (uu * 2 ^ 54) uf f2 rest ff (lifted xx uu _ e) h g
        ∙ spread ((a + p) * 2 ^ 54 + (b + q) * 2 ^ 28 + (c + r)) f2 (rest * 2 ^ 28 + ff)
        ∙ ap (λ (z : ℕ). z * 2 ^ 54 + (rest * 2 ^ 28 + ff)) (sum' ((a + p) * 2 ^ 54 + (b + q) * 2 ^ 28) (c + r) (2 * f2))
      where
        sum' : (x y z : ℕ) → x + y + z ≡ x + (y + z)
        sum' x y z = omega arith

-- what the check says of B holds of the sum, which is B and less than 2 ^ 29 more
pub columns_settle : (z B l r : ℕ) → z ≡ B * 2 ^ 54 + l → l < 2 ^ 83
    → (r ≡ 0) ⊎ ((0 < r) × ((2 * r - 1) * (2 * r - 1) < B) × (B + 2 ^ 29 ≤ (2 * r + 1) * (2 * r + 1))) → Settled r z (2 ^ 54)
columns_settle z B l r e h (inl o) = inl o
columns_settle z B l r e h (inr (p, a, b)) = inr (p, go ((2 * r - 1) * (2 * r - 1)) z B l e a, go' ((2 * r + 1) * (2 * r + 1)) z B l e h b)
  where
    go : (m z B l : ℕ) → z ≡ B * 2 ^ 54 + l → m < B → m * 2 ^ 54 < z
    go m z B l e a = omega arith

    go' : (m z B l : ℕ) → z ≡ B * 2 ^ 54 + l → l < 2 ^ 83 → B + 2 ^ 29 ≤ m → z < m * 2 ^ 54
    go' m z B l e h a = omega arith

-- ---- from m, n, k and i to the columns
module _ (n h : ℕ) (N : n < 2 ^ 53) (H : h ≤ 27) where
  abbrev Q : ℕ
  Q = 2 ^ (28 - h)

  whole : Q * 2 ^ h ≡ 2 ^ 28
  whole = sym (pow-add 2 (28 - h) h) ∙ ap (λ (z : ℕ). 2 ^ z) (sum h H)
    where
      sum : (h : ℕ) → h ≤ 27 → 28 - h + h ≡ 28
      sum h k = omega arith

  behind : bit_and (n * Q % 2 ^ 64) (2 ^ 27 - 1) ≡ n * Q % 2 ^ 27
  behind = and_mask (n * Q % 2 ^ 64) 27 ∙ cut (n * Q)
    where
      cut : (z : ℕ) → z % 2 ^ 64 % 2 ^ 27 ≡ z % 2 ^ 27
      cut z = omega arith

  before : 2 * n / 2 ^ h ≡ n * Q / 2 ^ 27
  before =
      sym (mul-div-mul_right (2 * n) (2 ^ h) (lit< {m = 0} {n = 2 ^ 27} tt))
      ∙ ap (λ (z : ℕ). z / (2 ^ h * 2 ^ 27)) (scale n ∙ ap (λ (z : ℕ). n * z) (sym whole) ∙ sym (mul_assoc n Q (2 ^ h)))
      ∙ ap (λ (z : ℕ). n * Q * 2 ^ h / z) (mul_comm (2 ^ h) (2 ^ 27))
      ∙ mul-div-mul_right (n * Q) (2 ^ 27) (pow_pos h)
    where
      scale : (n : ℕ) → 2 * n * 2 ^ 27 ≡ n * 2 ^ 28
      scale n = omega arith

  pub pointed : 2 * n / 2 ^ h * 2 ^ 27 + bit_and (n * Q % 2 ^ 64) (2 ^ 27 - 1) ≡ n * Q
  pointed = ap (λ (z : ℕ). z * 2 ^ 27 + bit_and (n * Q % 2 ^ 64) (2 ^ 27 - 1)) before ∙ ap (λ (z : ℕ). n * Q / 2 ^ 27 * 2 ^ 27 + z) behind
      ∙ div-add-mod' (n * Q) (2 ^ 27)

  pub scaled_square : n * Q * (n * Q) * 4 ^ h ≡ n * n * 2 ^ 56
  scaled_square =
      ap (λ (z : ℕ). n * Q * (n * Q) * z) (four h ∙ ap (λ (z : ℕ). 2 ^ z) (twice h) ∙ pow-add 2 h h)
      ∙ mul-mul-mul_comm (n * Q) (n * Q) (2 ^ h) (2 ^ h)
      ∙ ap (λ (z : ℕ). z * z) (mul_assoc n Q (2 ^ h) ∙ ap (λ (z : ℕ). n * z) whole)
      ∙ mul-mul-mul_comm n (2 ^ 28) n (2 ^ 28)
    where
      twice : (h : ℕ) → 2 * h ≡ h + h
      twice h = omega arith

x_square : (m k i : ℕ) → i ≤ 1 → m * (2 - i) * (m * (2 - i)) * 4 ^ (k + i) ≡ 4 * (m * m * 4 ^ k)
x_square m k zero I =
    ap (λ (z : ℕ). m * 2 * (m * 2) * 4 ^ z) (plain k) ∙ ap (λ (z : ℕ). z * 4 ^ k) (mul-mul-mul_comm m 2 m 2) ∙ mul_right_comm (m * m) 4 (4 ^ k)
    ∙ mul_comm (m * m * 4 ^ k) 4
  where
    plain : (k : ℕ) → k + 0 ≡ k
    plain k = omega arith
x_square m k (suc zero) I =
    ap (λ (z : ℕ). z * z * 4 ^ (k + 1)) (mul-one m) ∙ ap (λ (z : ℕ). m * m * 4 ^ z) (next k) ∙ ap (λ (z : ℕ). m * m * z) (pow-suc 4 k)
    ∙ sym (mul_assoc (m * m) (4 ^ k) 4) ∙ mul_comm (m * m * 4 ^ k) 4
  where
    next : (k : ℕ) → k + 1 ≡ suc k
    next k = omega arith
x_square m k (suc (suc i)) I = absurd (omega arith)

pub checked_settle : (m n k i r : ℕ) → n < 2 ^ 53 → k ≤ 26 → i ≤ 1
    → Settled r (m * (2 - i) * (m * (2 - i)) * 2 ^ 54 + (2 * n / 2 ^ (k + i) * 2 ^ 27 + bit_and (n * 2 ^ (28 - (k + i)) % 2 ^ 64) (2 ^ 27 - 1))
    * (2 * n / 2 ^ (k + i) * 2 ^ 27 + bit_and (n * 2 ^ (28 - (k + i)) % 2 ^ 64) (2 ^ 27 - 1))) (2 ^ 54)
    → Settled r (4 * (m * m * 4 ^ k + n * n)) (4 ^ (k + i))
checked_settle m n k i r N K I (inl e) = inl e
checked_settle m n k i r N K I (inr (p, a, b)) =
    let h = k + i in
    let x = m * (2 - i) in
    let y = 2 * n / 2 ^ h * 2 ^ 27 + bit_and (n * 2 ^ (28 - h) % 2 ^ 64) (2 ^ 27 - 1) in
    let q = n * 2 ^ (28 - h) in
    let e : (x * x * 2 ^ 54 + y * y) * 4 ^ h ≡ 4 * (m * m * 4 ^ k + n * n) * 2 ^ 54 =
    ap (λ (z : ℕ). (x * x * 2 ^ 54 + z * z) * 4 ^ h) (pointed n h N (omega arith))
    ∙ add-mul (x * x * 2 ^ 54) (q * q) (4 ^ h)
    ∙ ap (λ (z : ℕ). z + q * q * 4 ^ h) (mul_right_comm (x * x) (2 ^ 54) (4 ^ h) ∙ ap (λ (z : ℕ). z * 2 ^ 54) (x_square m k i I))
    ∙ ap (λ (z : ℕ). 4 * (m * m * 4 ^ k) * 2 ^ 54 + z) (scaled_square n h N (omega arith))
    ∙ sum (m * m * 4 ^ k) (n * n) in
    let C : 0 < 4 ^ h = subst (λ (z : ℕ). 0 < z) (sym (four h)) (pow_pos (2 * h)) in
    inr (
      p,
      lt_of_mul-lt-mul_right (2 ^ 54)
          (lt_of_le_of_lt (le_of_eq (mul_right_comm _ (4 ^ h) (2 ^ 54))) (lt_of_lt_of_le (mul-lt-mul_of_pos_right a C) (le_of_eq e))),
      lt_of_mul-lt-mul_right (2 ^ 54)
          (lt_of_le_of_lt (le_of_eq (sym e)) (lt_of_lt_of_le (mul-lt-mul_of_pos_right b C) (le_of_eq (mul_right_comm _ (2 ^ 54) (4 ^ h))))),
    )
  where
    sum : (a b : ℕ) → 4 * a * 2 ^ 54 + b * 2 ^ 56 ≡ 4 * (a + b) * 2 ^ 54
    sum a b = omega arith
