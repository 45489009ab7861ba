-- Wide numbers and their lowering: what stands for v / 2 ^ c compares with every even number as v / 2 ^ c does.
use Rattle.std.proofs.Common.{◌≡◌, ℕ, zero, suc, ◌+◌, ◌-◌, ◌*◌, ◌/◌, ◌%◌, ◌^◌, ◌<◌, ◌≤◌, sym, ap, ◌∙◌, subst, inl, inr, le_trans, le_of_eq, lt_of_lt_of_le, lt_of_le_of_lt, add-zero, mul-le-mul_right, mod-lt, mul_assoc, mul_comm, div-lt_iff_lt-mul, add-mul, lt_of_mul-lt-mul_right, mul-lt-mul_of_pos_right, one-mul, pow-suc, div-add-mod', mul-one, mul_right_comm, mul-div_cancel, arith, lit<, pow_pos, pow-add, shl_exact}
use native.Mathlib.Nat.{mul-mul-mul_comm, eq_of_mul-eq-mul_right}
use native.Mathlib.Nat.{mul-mod_left}
use lib.Arith.{mod-mul}
use lib.Bits.{bit_and, bit_or, and_mask, or_add_and}
use Rattle.roots.proofs.Squares.{square_add}
use Rattle.roots.proofs.Halves.{mul_lt}
use Rattle.roots.specs.Hypot.{NearestEven}
use Rattle.roots.specs.Inside.{Lowered}

-- ---- the square of a number in two parts
pub square_parts : (a b p : ℕ) → (a * p + b) * (a * p + b) ≡ a * a * (p * p) + 2 * (a * b * p) + b * b
square_parts a b p =
    let x = square_add (a * p) b in
    let y : a * p * (a * p) ≡ a * a * (p * p) = mul-mul-mul_comm a p a p in
    let z : a * p * b ≡ a * b * p = mul_right_comm a p b in
    omega arith

-- ---- an even number on top of it
one_less : (a w : ℕ) → w % 2 ≡ 1 → a + w - 1 ≡ a + (w - 1)
one_less a w h = omega arith

pub lowered_add : (a v w c : ℕ) → a % 2 ≡ 0 → Lowered v w c → Lowered (a * 2 ^ c + v) (a + w) c
lowered_add a v w c h (inl e) = let x = add-mul a w (2 ^ c) in inl (omega arith)
lowered_add a v w c h (inr (o, l, u)) =
    let s = one_less a w o in
    let x : (a + w - 1) * 2 ^ c ≡ a * 2 ^ c + (w - 1) * 2 ^ c = ap (λ (z : ℕ). z * 2 ^ c) s ∙ add-mul a (w - 1) (2 ^ c) in
    let t : a + w + 1 ≡ a + (w + 1) = omega arith in
    let y : (a + w + 1) * 2 ^ c ≡ a * 2 ^ c + (w + 1) * 2 ^ c = ap (λ (z : ℕ). z * 2 ^ c) t ∙ add-mul a (w + 1) (2 ^ c) in
    inr (omega arith, omega arith, omega arith)

-- ---- one after the other
power : (z c d : ℕ) → z * 2 ^ d * 2 ^ c ≡ z * 2 ^ (c + d)
power z c d = mul_assoc z (2 ^ d) (2 ^ c) ∙ ap (λ (y : ℕ). z * y) (mul_comm (2 ^ d) (2 ^ c) ∙ sym (pow-add 2 c d))

even_power : (z d : ℕ) → z * 2 ^ suc d % 2 ≡ 1 → ⊥
even_power z d h =
    let e : z * 2 ^ suc d ≡ z * 2 ^ d * 2 = ap (λ (y : ℕ). z * y) (pow-suc 2 d) ∙ sym (mul_assoc z (2 ^ d) 2) in
    no (z * 2 ^ suc d) (z * 2 ^ d) e h
  where
    no : (a b : ℕ) → a ≡ b * 2 → a % 2 ≡ 1 → ⊥
    no a b e h = omega arith

pub lowered_both : (v w z c d : ℕ) → Lowered v w c → Lowered w z d → Lowered v z (c + d)
lowered_both v w z c d (inl e) (inl f) = inl (e ∙ ap (λ (y : ℕ). y * 2 ^ c) f ∙ power z c d)
lowered_both v w z c d (inl e) (inr (o, l, u)) =
    inr (
      o,
      lt_of_lt_of_le (lt_of_le_of_lt (le_of_eq (sym (power (z - 1) c d))) (mul-lt-mul_of_pos_right l (pow_pos c))) (le_of_eq (sym e)),
      lt_of_le_of_lt (le_of_eq e) (lt_of_lt_of_le (mul-lt-mul_of_pos_right u (pow_pos c)) (le_of_eq (power (z + 1) c d))),
    )
lowered_both v w z c zero (inr (o, l, u)) (inl f) =
    let g : w ≡ z = f ∙ mul-one z in
    let s : c + 0 ≡ c = omega arith in
    subst (λ (y : ℕ). Lowered v z y) (sym s) (subst (λ (y : ℕ). Lowered v y c) g (inr (o, l, u)))
lowered_both v w z c (suc d) (inr (o, l, u)) (inl f) = absurd (even_power z d (ap (λ (y : ℕ). y % 2) (sym f) ∙ o))
lowered_both v w z c d (inr (o, l, u)) (inr (o', l', u')) =
    inr (
      o',
      lt_of_le_of_lt (le_trans (le_of_eq (sym (power (z - 1) c d))) (mul-le-mul_right (2 ^ c) (down ((z - 1) * 2 ^ d) w o l'))) l,
      lt_of_lt_of_le u (le_trans (mul-le-mul_right (2 ^ c) (up ((z + 1) * 2 ^ d) w u')) (le_of_eq (power (z + 1) c d))),
    )
  where
    down : (a w : ℕ) → w % 2 ≡ 1 → a < w → a ≤ w - 1
    down a w o h = omega arith

    up : (a w : ℕ) → w < a → w + 1 ≤ a
    up a w h = omega arith

-- ---- as even numbers see it
pub at_least : (v w c a : ℕ) → a % 2 ≡ 0 → Lowered v w c → a ≤ w → a * 2 ^ c ≤ v
at_least v w c a h (inl e) l = le_trans (mul-le-mul_right (2 ^ c) l) (le_of_eq (sym e))
at_least v w c a h (inr (o, k, u)) l = let x = mul-le-mul_right (2 ^ c) (down a w h o l) in omega arith
  where
    down : (a w : ℕ) → a % 2 ≡ 0 → w % 2 ≡ 1 → a ≤ w → a ≤ w - 1
    down a w p q l = omega arith

pub less_than : (v w c a : ℕ) → a % 2 ≡ 0 → Lowered v w c → w < a → v < a * 2 ^ c
less_than v w c a h (inl e) l = lt_of_le_of_lt (le_of_eq e) (mul-lt-mul_of_pos_right l (pow_pos c))
less_than v w c a h (inr (o, k, u)) l = lt_of_lt_of_le u (mul-le-mul_right (2 ^ c) (up a w l))
  where
    up : (a w : ℕ) → w < a → w + 1 ≤ a
    up a w l = omega arith

even_two : (a : ℕ) → a * 2 % 2 ≡ 0
even_two a = omega arith

pub nearest_lowered : (v w c r : ℕ) → Lowered v w c → NearestEven w 2 r → NearestEven v (2 * 2 ^ c) r
nearest_lowered v w c r l a =
    let x : (2 * r - 1) * (2 * r - 1) * 2 * 2 ^ c ≡ (2 * r - 1) * (2 * r - 1) * (2 * 2 ^ c) = mul_assoc _ 2 (2 ^ c) in
    let y : (2 * r + 1) * (2 * r + 1) * 2 * 2 ^ c ≡ (2 * r + 1) * (2 * r + 1) * (2 * 2 ^ c) = mul_assoc _ 2 (2 ^ c) in
    record {
      above = le_trans (le_of_eq (sym x)) (at_least v w c _ (even_two ((2 * r - 1) * (2 * r - 1))) l a.above);
      below = le_trans (not_more v w c _ (even_two ((2 * r + 1) * (2 * r + 1))) l a.below) (le_of_eq y);
      tie_above = λ e. a.tie_above (same v w c _ (even_two ((2 * r - 1) * (2 * r - 1))) l (x ∙ e));
      tie_below = λ e. a.tie_below (sym (same v w c _ (even_two ((2 * r + 1) * (2 * r + 1))) l (y ∙ sym e)));
    }
  where
    not_more : (v w c a : ℕ) → a % 2 ≡ 0 → Lowered v w c → w ≤ a → v ≤ a * 2 ^ c
    not_more v w c a h (inl e) l = le_trans (le_of_eq e) (mul-le-mul_right (2 ^ c) l)
    not_more v w c a h (inr (o, k, u)) l = let x = mul-le-mul_right (2 ^ c) (up a w h o l) in omega arith
      where
        up : (a w : ℕ) → a % 2 ≡ 0 → w % 2 ≡ 1 → w ≤ a → w + 1 ≤ a
        up a w p q l = omega arith

    same : (v w c a : ℕ) → a % 2 ≡ 0 → Lowered v w c → a * 2 ^ c ≡ v → a ≡ w
    same v w c a h (inl e) f = eq_of_mul-eq-mul_right (2 ^ c) (pow_pos c) a w (f ∙ e)
    same v w c a h (inr (o, k, u)) f =
        go a w h o (lt_of_mul (w - 1) a (lt_of_lt_of_le k (le_of_eq (sym f)))) (lt_of_mul a (w + 1) (lt_of_le_of_lt (le_of_eq f) u))
      where
        lt_of_mul : (x y : ℕ) → x * 2 ^ c < y * 2 ^ c → x < y
        lt_of_mul x y h = lt_of_mul-lt-mul_right (2 ^ c) h

        go : (a w : ℕ) → a % 2 ≡ 0 → w % 2 ≡ 1 → w - 1 < a → a < w + 1 → a ≡ w
        go a w p q l u = omega arith

-- ---- the machine's lowering: hi and lo shifted by c, and the last digit set where lo loses something
module _ (hi lo c : ℕ) (H : hi < 2 ^ 55) (L : lo < 2 ^ 55) (C : c ≤ 52) where
  abbrev P : ℕ
  P = 2 ^ c

  abbrev Q : ℕ
  Q = 2 ^ (55 - c)

  whole : P * Q ≡ 2 ^ 55
  whole = sym (pow-add 2 c (55 - c)) ∙ ap (λ (z : ℕ). 2 ^ z) (sum c C)
    where
      sum : (c : ℕ) → c ≤ 52 → c + (55 - c) ≡ 55
      sum c h = omega arith

  -- what hi hands down
  handed : bit_and (hi * Q % 2 ^ 64) (2 ^ 55 - 1) ≡ hi % P * Q
  handed = and_mask (hi * Q % 2 ^ 64) 55 ∙ cut (hi * Q) ∙ ap (λ (z : ℕ). hi * Q % z) (sym whole) ∙ lower
    where
      cut : (n : ℕ) → n % 2 ^ 64 % 2 ^ 55 ≡ n % 2 ^ 55
      cut n = omega arith

      lower : hi * Q % (P * Q) ≡ hi % P * Q
      lower = mod_scaled hi P Q (pow_pos c) (pow_pos (55 - c))
        where
          mod_scaled : (n p q : ℕ) → 0 < p → 0 < q → n * q % (p * q) ≡ n % p * q
          mod_scaled n p q A B =
              mod-mul (n * q) A B ∙ ap (λ (z : ℕ). z % p * q + n * q % q) (mul-div_cancel n B)
              ∙ ap (λ (z : ℕ). n % p * q + z) (mul-mod_left n q) ∙ add-zero (n % p * q)

  abbrev low : ℕ
  low = lo / P + hi % P * Q

  low_lt : low < 2 ^ 55
  low_lt =
      let a : lo / P < Q = (div-lt_iff_lt-mul (pow_pos c)).1 (lt_of_lt_of_le L (le_of_eq (sym whole ∙ mul_comm P Q))) in
      let b : hi % P + 1 ≤ P = omega (arith, mod-lt hi (pow_pos c)) in
      let d : (hi % P + 1) * Q ≤ P * Q = mul-le-mul_right Q b in
      let e : (hi % P + 1) * Q ≡ hi % P * Q + 1 * Q = add-mul (hi % P) 1 Q in
      let f = whole in
      go (lo / P) (hi % P * Q) Q ((hi % P + 1) * Q) (P * Q) a d e f
    where
      go : (x y q z w : ℕ) → x < q → z ≤ w → z ≡ y + 1 * q → w ≡ 2 ^ 55 → x + y < 2 ^ 55
      go x y q z w a b c d = omega arith

  split : hi * 2 ^ 55 + lo ≡ (hi / P * 2 ^ 55 + low) * P + lo % P
  split =
      let a : hi / P * P + hi % P ≡ hi = div-add-mod' hi P in
      let b : lo / P * P + lo % P ≡ lo = div-add-mod' lo P in
      let d : hi * 2 ^ 55 ≡ hi / P * P * 2 ^ 55 + hi % P * 2 ^ 55 = ap (λ (z : ℕ). z * 2 ^ 55) (sym a) ∙ add-mul (hi / P * P) (hi % P) (2 ^ 55) in
      let e : hi / P * P * 2 ^ 55 ≡ hi / P * 2 ^ 55 * P = mul_right_comm (hi / P) P (2 ^ 55) in
      let f : hi % P * Q * P ≡ hi % P * 2 ^ 55 = mul_assoc (hi % P) Q P ∙ ap (λ (z : ℕ). hi % P * z) (mul_comm Q P ∙ whole) in
      let g : (hi / P * 2 ^ 55 + low) * P ≡ hi / P * 2 ^ 55 * P + low * P = add-mul (hi / P * 2 ^ 55) low P in
      let h : low * P ≡ lo / P * P + hi % P * Q * P = add-mul (lo / P) (hi % P * Q) P in
      go (hi * 2 ^ 55) lo (hi / P * P * 2 ^ 55) (hi % P * 2 ^ 55) (hi / P * 2 ^ 55 * P) (hi % P * Q * P) (low * P) ((hi / P * 2 ^ 55 + low) * P)
      (lo / P * P) (lo % P) b d e f g h
    where
      go : (A lo B D E F G I J t : ℕ) → J + t ≡ lo → A ≡ B + D → B ≡ E → F ≡ D → I ≡ E + G → G ≡ J + F → A + lo ≡ I + t
      go A lo B D E F G I J t a b c d e f = omega arith

  -- the same in the machine's own terms
  abbrev raw : ℕ
  raw = lo / P + bit_and (hi * Q % 2 ^ 64) (2 ^ 55 - 1)

  raw_is : low ≡ raw
  raw_is = ap (λ (z : ℕ). lo / P + z) (sym handed)

  pub raw_lt : raw < 2 ^ 55
  raw_lt = subst (λ (z : ℕ). z < 2 ^ 55) raw_is low_lt

  one_is : 1 * P % 2 ^ 64 ≡ P
  one_is = shl_exact {a = 1} 1 c 64 (lit< tt) (omega arith) ∙ one-mul P

  pub one_pos : 1 ≤ 1 * P % 2 ^ 64
  one_pos = subst (λ (z : ℕ). 1 ≤ z) (sym one_is) (pow_pos c)

  lost : bit_and lo (1 * P % 2 ^ 64 - 1) ≡ lo % P
  lost = ap (λ (z : ℕ). bit_and lo (z - 1)) one_is ∙ and_mask lo c

  pub lowered_exact : bit_and lo (1 * P % 2 ^ 64 - 1) ≡ 0 → Lowered (hi * 2 ^ 55 + lo) (hi / P * 2 ^ 55 + raw) c
  lowered_exact e =
      let z : lo % P ≡ 0 = sym lost ∙ e in
      let s = split in
      subst (λ (z : ℕ). Lowered (hi * 2 ^ 55 + lo) (hi / P * 2 ^ 55 + z) c) raw_is (inl (omega arith))

  abbrev odd_low : ℕ
  odd_low = bit_or low 1

  odd_is : odd_low ≡ low + 1 - low % 2
  odd_is = let a = or_add_and low 1 in let b = and_mask low 1 in go low (bit_or low 1) (bit_and low 1) a b
    where
      go : (l o a : ℕ) → o + a ≡ l + 1 → a ≡ l % 2 → o ≡ l + 1 - l % 2
      go l o a e f = omega arith

  pub odd_lt : bit_or raw 1 < 2 ^ 55
  odd_lt = let a = odd_is in let b = low_lt in subst (λ (z : ℕ). bit_or z 1 < 2 ^ 55) raw_is (go low odd_low a b)
    where
      go : (l o : ℕ) → o ≡ l + 1 - l % 2 → l < 2 ^ 55 → o < 2 ^ 55
      go l o e h = omega arith

  pub lowered_odd : (bit_and lo (1 * P % 2 ^ 64 - 1) ≡ 0 → ⊥) → Lowered (hi * 2 ^ 55 + lo) (hi / P * 2 ^ 55 + bit_or raw 1) c
  lowered_odd n =
      let s = split in
      let t = lo % P in
      let m : lo % P < P = mod-lt lo (pow_pos c) in
      let z : 0 < lo % P = some (lo % P) (λ e. n (lost ∙ e)) in
      let w = hi / P * 2 ^ 55 + low in
      subst (λ (z : ℕ). Lowered (hi * 2 ^ 55 + lo) (hi / P * 2 ^ 55 + bit_or z 1) c) raw_is
      (go (hi * 2 ^ 55 + lo) (lo % P) w (hi / P * 2 ^ 55 + odd_low) s z m (parts (hi / P) low odd_low odd_is))
    where
      some : (t : ℕ) → (t ≡ 0 → ⊥) → 0 < t
      some t n = omega arith

      parts : (h l o : ℕ) → o ≡ l + 1 - l % 2 → ((h * 2 ^ 55 + o) % 2 ≡ 1) × (h * 2 ^ 55 + o - 1 ≤ h * 2 ^ 55 + l) × (h * 2 ^ 55 + l ≤ h * 2 ^ 55 + o)
      parts h l o e = (omega arith, omega arith, omega arith)

      go : (v t w o : ℕ) → v ≡ w * P + t → 0 < t → t < P → (o % 2 ≡ 1) × (o - 1 ≤ w) × (w ≤ o) → Lowered v o c
      go v t w o e z m (a, b, d) =
          let x : (o - 1) * P ≤ w * P = mul-le-mul_right P b in
          let y : w * P ≤ o * P = mul-le-mul_right P d in
          let u : (o + 1) * P ≡ o * P + 1 * P = add-mul o 1 P in
          inr (a, omega arith, omega arith)

-- ---- eight squares
pub record Eight (x b : ℕ) : Type 0 where
  pub high : x / 2 ^ 26 * (x / 2 ^ 26) < 2 ^ 54
  pub cross : x / 2 ^ 26 * b < 2 ^ 53
  pub low : b * b < 2 ^ 52
  pub square : x * x < 2 ^ 106
  pub same : (x / 2 ^ 26 * (x / 2 ^ 26) + x / 2 ^ 26 * b / 2 ^ 25) * 2 ^ 55
      + (bit_and (x / 2 ^ 26 * b) (2 ^ 25 - 1) * 2 ^ 30 % 2 ^ 64 + 8 * (b * b)) ≡ 8 * (x * x)

pub eight : (x b : ℕ) → b ≡ x % 2 ^ 26 → x < 2 ^ 53 → Eight x b
eight x b e h =
    let a = x / 2 ^ 26 in
    let A : a < 2 ^ 27 = omega arith in
    let B : b < 2 ^ 26 = omega arith in
    let f : x ≡ a * 2 ^ 26 + b = omega arith in
    let s : x * x ≡ a * a * (2 ^ 26 * 2 ^ 26) + 2 * (a * b * 2 ^ 26) + b * b = ap (λ (z : ℕ). z * z) f ∙ square_parts a b (2 ^ 26) in
    record {
      high = mul_lt (2 ^ 27) (2 ^ 27) (lit< tt) A A;
      cross = mul_lt (2 ^ 27) (2 ^ 26) (lit< tt) A B;
      low = mul_lt (2 ^ 26) (2 ^ 26) (lit< tt) B B;
      square = mul_lt (2 ^ 53) (2 ^ 53) (lit< tt) h h;
      same = sums (a * a) (a * b) (b * b) (x * x) (bit_and (a * b) (2 ^ 25 - 1)) (and_mask (a * b) 25) s;
    }
  where
    sums : (aa ab bb xx m : ℕ) → m ≡ ab % 2 ^ 25 → xx ≡ aa * (2 ^ 26 * 2 ^ 26) + 2 * (ab * 2 ^ 26) + bb
        → (aa + ab / 2 ^ 25) * 2 ^ 55 + (m * 2 ^ 30 % 2 ^ 64 + 8 * bb) ≡ 8 * xx
    sums aa ab bb xx m e f = omega arith
