-- Both inner points of a bracket a..b within 0..1 lie from a to b, as they are computed. All is counted in smallest f64s: b - a is a whole number of them, its
-- rounding goes at most a part in 2 ^ 52 too far, or not at all where it is below 2 ^ 53, and phi is much less than 1.
use mathlib.Core.Bool.{true, false}
use mathlib.Core.Logic.{◌⊎◌, inl, inr, ⊎_elim}
use mathlib.Core.Path.{◌≡◌, refl, ap, sym, ◌∙◌, subst}
use Prim.Native.Nat.{ℕ, zero, suc, ◌+◌, ◌-◌, ◌*◌, ◌^◌, ◌≤◌, ◌<◌}
use native.Mathlib.Nat.{add_comm, mul-sub, mul_right_comm, mul-mul-mul_comm, zero-mul, mul-zero, mul-one, mul_comm, mul_assoc, mul_left_comm, add-mul, mul-pos}
use native.Mathlib.Nat.{mul-le-mul_right, mul-le-mul_left, le_trans, le_of_eq, le_of_mul-le-mul_right, le_of_mul-le-mul_left, lt_of_lt_of_le}
use native.Mathlib.Omega.{arith}
use borrow.Author.Tests.{ltb-true, ltb-false, leb-true, leb-false, le-leb, lt-leb}
use lib.Dec.{T, ltb, leb, lit≤}
use lib.IntN.{pos}
use lib.Pow.{pow_pos, pow_mono}
use lib.Ieee.{Float, nan, inf, fin, binary64, down, round, sub, neg, lt, le, fits}
use lib.Ieee.Exact.{HasValue, round_exact}
use lib.Ieee.Fits.{sub-fits}
use lib.Ieee.Scale.{finite, grid, round_same, round_val, round_under}
use lib.Ieee.Positive.{den, den_pos}
use Rattle.numbers.specs.Reals.{◌⊕◌, ◌⊖◌, ◌⊗◌}
use Rattle.roots.specs.Hypot.{count_of}
use Rattle.golden.specs.Phi.{phi}
use Rattle.roots.proofs.Distances.{count_is}
use Rattle.golden.specs.Search as golden
use Rattle.order.proofs.Signed.{upper, lower, le→parts, Is, rounded, is_le, is_sub, round_neg}
use Rattle.order.proofs.Ranges.{finite_between, sub_mono, zero_is}
use Rattle.rules.proofs.Branches.{by_test}
use Rattle.order.proofs.Extremes.{not_below_lem, lt_le}
use Rattle.order.proofs.Order.{O, le_trans as le_on, neg_finite, neg_neg, neg_upper, sub_turns, add_is, add_right, is_mul, mul_up, mul_swap, no_lower, own}
use Rattle.order.proofs.Rounded.{not_more}
use Rattle.bound.proofs.Unit.{I, Φ, phi_is, Unit, unit_finite, less_up, upper_stays, lower_stays}

-- ---- a number from 0 on is so many smallest f64s
record Counted (x : Float) (n : ℕ) : Type 0 where
  pub fine : T (finite x)
  pub none : lower x ≡ 0
  pub value : upper x * 2 ^ 1074 ≡ n * den x

counted : (x : Float) → T (fits binary64 x) → T (finite x) → T (le O x) → (n : ℕ) × Counted x n
counted nan g p h = absurd p
counted (inf s) g p h = absurd p
counted (fin true m e) g p h = (0, record { fine = tt; none = no_lower (fin true m e) tt h; value = zero-mul (2 ^ 1074) ∙ sym (zero-mul (down e)) })
counted (fin false m e) g p h = (count_of (fin false m e), record { fine = tt; none = refl; value = count_is false m e g })

of_value : (x : Float) (n : ℕ) → HasValue x false n (2 ^ 1074) → Counted x n
of_value nan n v = absurd v
of_value (inf s) n v = absurd v
of_value (fin true m e) n v = absurd (let k : ◌≡◌ {A = ℕ} 0 1 = cc in omega arith)
of_value (fin false m e) n v = record { fine = tt; none = refl; value = v.1 }

-- ---- the order of counts
counts_le : (x y : Float) (m n : ℕ) → Counted x m → Counted y n → T (le x y) → m ≤ n
counts_le x y m n a b h =
    go (upper x) (lower x) (den x) (upper y) (lower y) (den y) m n (2 ^ 1074) (den_pos x) (den_pos y) a.none b.none a.value b.value
    (le→parts x y a.fine b.fine h)
  where
    go : (ux lx dx uy ly dy m n t : ℕ) → 0 < dx → 0 < dy → lx ≡ 0 → ly ≡ 0 → ux * t ≡ m * dx → uy * t ≡ n * dy → ux * dy + ly * dx ≤ uy * dx + lx * dy → m ≤ n
    go ux lx dx uy ly dy m n t p q e f k l h =
        let e' : lx * dy ≡ 0 = rw e (zero-mul dy) in
        let f' : ly * dx ≡ 0 = rw f (zero-mul dx) in
        let h' : ux * dy ≤ uy * dx = omega (arith, e', f') in
        le_of_mul-le-mul_right {k = dx * dy}
        (le_trans (le_of_eq (sym (mul_assoc m dx dy) ∙ ap (λ (z : ℕ). z * dy) (sym k) ∙ mul_right_comm ux t dy))
        (le_trans (mul-le-mul_right t h')
        (le_of_eq (mul_right_comm uy dx t ∙ ap (λ (z : ℕ). z * dx) l ∙ mul_assoc n dy dx ∙ ap (λ (z : ℕ). n * z) (mul_comm dy dx)))))
        (mul-pos p q)

-- ---- m + k at most n
module _ (x y z : Float) (m k n : ℕ) (a : Counted x m) (b : Counted y k) (c : Counted z n) (h : m + k ≤ n) where
  cross : upper x * (den y * den z) + upper y * (den x * den z) ≤ upper z * (den x * den y)
  cross = go (upper x) (den x) (upper y) (den y) (upper z) (den z) m k n (2 ^ 1074) (pow_pos 1074) a.value b.value c.value h
    where
      go : (ux dx uy dy uz dz m k n t : ℕ) → 0 < t → ux * t ≡ m * dx → uy * t ≡ k * dy → uz * t ≡ n * dz → m + k ≤ n
          → ux * (dy * dz) + uy * (dx * dz) ≤ uz * (dx * dy)
      go ux dx uy dy uz dz m k n t p e f g h =
          let e' : ux * (dy * dz) * t ≡ m * (dx * (dy * dz)) = mul_right_comm ux (dy * dz) t ∙ ap (λ (w : ℕ). w * (dy * dz)) e ∙ mul_assoc m dx (dy * dz) in
          let f' : uy * (dx * dz) * t ≡ k * (dx * (dy * dz)) = mul_right_comm uy (dx * dz) t ∙ ap (λ (w : ℕ). w * (dx * dz)) f ∙ mul_assoc k dy (dx * dz)
          ∙ ap (λ (w : ℕ). k * w) (mul_left_comm dy dx dz) in
          let g' : uz * (dx * dy) * t ≡ n * (dx * (dy * dz)) = mul_right_comm uz (dx * dy) t ∙ ap (λ (w : ℕ). w * (dx * dy)) g ∙ mul_assoc n dz (dx * dy)
          ∙ ap (λ (w : ℕ). n * w) (mul_left_comm dz dx dy ∙ ap (λ (w : ℕ). dx * w) (mul_comm dz dy)) in
          le_of_mul-le-mul_right {k = t}
          (le_trans (le_of_eq (add-mul (ux * (dy * dz)) (uy * (dx * dz)) t ∙ ap (λ (w : ℕ). w + uy * (dx * dz) * t) e'
          ∙ ap (λ (w : ℕ). m * (dx * (dy * dz)) + w) f' ∙ sym (add-mul m k (dx * (dy * dz)))))
          (le_trans (mul-le-mul_right (dx * (dy * dz)) h) (le_of_eq (sym g'))))
          p

  sum_under : T (fits binary64 z) → T (le (x ⊕ y) z)
  sum_under g =
      let n = neg_upper y in
      rw (sym (add_is binary64 x y))
      (is_le binary64 _ _ _ _ _ _ _ _ (mul-pos (den_pos x) (den_pos (neg y))) (den_pos z)
      (rw (n.0, n.1, n.2, a.none, b.none, c.none) (tidy (upper x) (den x) (upper y) (den y) (upper z) (den z) cross))
      (is_sub binary64 x (neg y) a.fine (neg_finite y b.fine)) (own z g c.fine))
    where
      tidy : (ux dx uy dy uz dz : ℕ) → ux * (dy * dz) + uy * (dx * dz) ≤ uz * (dx * dy)
          → (ux * dy + uy * dx) * dz + 0 * (dx * dy) ≤ uz * (dx * dy) + (0 * dx + 0 * dy) * dz
      tidy ux dx uy dy uz dz h = omega (arith, add-mul (ux * dy) (uy * dx) dz, mul_assoc ux dy dz, mul_assoc uy dx dz, zero-mul (dx * dy))

  left_over : T (fits binary64 x) → T (le x (z ⊖ y))
  left_over g =
      is_le binary64 _ _ _ _ _ _ _ _ (den_pos x) (mul-pos (den_pos z) (den_pos y))
      (rw (a.none, b.none, c.none) (tidy (upper x) (den x) (upper y) (den y) (upper z) (den z) cross))
      (own x g a.fine) (is_sub binary64 z y c.fine b.fine)
    where
      tidy : (ux dx uy dy uz dz : ℕ) → ux * (dy * dz) + uy * (dx * dz) ≤ uz * (dx * dy)
          → ux * (dz * dy) + (uy * dz + 0 * dy) * dx ≤ (uz * dy + 0 * dz) * dx + 0 * (dz * dy)
      tidy ux dx uy dy uz dz h =
          omega (
            arith,
            ap (λ (w : ℕ). ux * w) (mul_comm dy dz),
            add-mul (uy * dz) (0 * dy) dx,
            add-mul (uz * dy) (0 * dz) dx,
            zero-mul dy,
            zero-mul dz,
            zero-mul dx,
            mul_assoc uy dz dx,
            ap (λ (w : ℕ). uy * w) (mul_comm dx dz),
            mul_assoc uz dy dx,
            ap (λ (w : ℕ). uz * w) (mul_comm dx dy),
            zero-mul (dz * dy),
          )

-- ---- a difference, and phi of it
abbrev Nearly : ℕ → ℕ → Type 0
Nearly v w = (w ≡ v) ⊎ ((2 ^ 53 ≤ v) × (2 ^ 52 * w ≤ (2 ^ 52 + 1) * v + 2 ^ 52))

rounded_count : (v : ℕ) → T (finite (round binary64 false v (2 ^ 1074))) → (w : ℕ) × Counted (round binary64 false v (2 ^ 1074)) w × Nearly v w
rounded_count v f =
    by_test (ltb v (2 ^ 53))
    (λ e. (
      v,
      of_value _ v (round_exact binary64 false v (2 ^ 1074) v 0 (pow_pos 1074) (ltb-true v (2 ^ 53) e) (lt_of_lt_of_le (few v (ltb-true v (2 ^ 53) e))
          (pow_mono {i = 53} {j = 2098} (omega arith))) (ap (λ (z : ℕ). z * 2 ^ 1074) (sym (mul-one v)))),
      inl refl,
    ))
    (λ e.
    let g = grid binary64 v (2 ^ 1074) in (
      g,
      of_value _ g (round_val binary64 v (2 ^ 1074) (round_under binary64 v (2 ^ 1074) f)),
      inr (ltb-false v (2 ^ 53) e, cut g v (2 ^ 1074) (pow_pos 1074) (not_more v (2 ^ 1074) (pow_pos 1074))),
    ))
  where
    few : (v : ℕ) → v < 2 ^ 53 → v * 1 < 2 ^ 53
    few v h = omega arith

    cut : (g v t : ℕ) → 0 < t → 2 ^ 52 * (g * t) ≤ (2 ^ 52 + 1) * (v * t) + 2 ^ 52 * t → 2 ^ 52 * g ≤ (2 ^ 52 + 1) * v + 2 ^ 52
    cut g v t p h =
        le_of_mul-le-mul_right {k = t}
        (le_trans (le_of_eq (mul_assoc (2 ^ 52) g t))
        (le_trans h (le_of_eq (ap (λ (z : ℕ). z + 2 ^ 52 * t) (sym (mul_assoc (2 ^ 52 + 1) v t)) ∙ sym (add-mul ((2 ^ 52 + 1) * v) (2 ^ 52) t))))) p

up_rounded : (p n c : ℕ) → n ≤ p → rounded binary64 p n c ≡ round binary64 false (p - n) c
unfolding rounded
up_rounded p n c h = rw (le-leb n p h)

down_rounded : (p n c : ℕ) → p < n → rounded binary64 p n c ≡ round binary64 true (n - p) c
unfolding rounded
down_rounded p n c h = rw (lt-leb n p h)

round_zero : (c : ℕ) → 0 < c → round binary64 false 0 c ≡ fin false 0 (pos 0)
round_zero c C = round_same binary64 false 0 c 0 1 C (omega arith) (omega (arith, zero-mul c)) ∙ unfold round in refl

no_count : Counted (fin true 0 (pos 0)) 0
no_count = record { fine = tt; none = refl; value = refl }

sub_mul : (a b c : ℕ) → (a - b) * c ≡ a * c - b * c
sub_mul a b c = mul_comm (a - b) c ∙ mul-sub c a b ∙ (rw (mul_comm c a, mul_comm c b))

-- ---- sums and differences with the number itself or 0
pub self : (a : Float) → T (finite a) → T (le O (a ⊖ a))
self a p =
    is_le binary64 _ _ _ _ _ _ _ _ (omega arith) (mul-pos (den_pos a) (den_pos a))
    (omega (arith, zero-mul (den a * den a), mul-one (upper a * den a + lower a * den a)))
    zero_is (is_sub binary64 a a p p)

pub plus_none : (a : Float) → T (fits binary64 a) → T (finite a) → T (le a (a ⊕ O))
plus_none a g p =
    let e : a ⊖ fin true 0 (pos 0) ≡ a ⊕ O = unfold sub neg in refl in
    subst (λ (w : Float). T (le a w)) e
    (is_le binary64 _ _ _ _ _ _ _ _ (den_pos a) (mul-pos (den_pos a) (den_pos (fin true 0 (pos 0))))
    (omega (arith, mul-one (den a), mul-one (upper a), mul-one (lower a), zero-mul (den a)))
    (own a g p) (is_sub binary64 a (fin true 0 (pos 0)) p tt))

pub less_none : (a : Float) → T (fits binary64 a) → T (finite a) → T (le (a ⊖ O) a)
less_none a g p =
    is_le binary64 _ _ _ _ _ _ _ _ (mul-pos (den_pos a) (den_pos O)) (den_pos a)
    (omega (arith, mul-one (den a), mul-one (upper a), mul-one (lower a), zero-mul (den a)))
    (is_sub binary64 a O p tt) (own a g p)

pub none_of_zero : (y : Float) → T (finite y) → T (le O (O ⊗ y))
none_of_zero y p =
    is_le binary64 _ _ _ _ _ _ _ _ (omega arith) (mul-pos (den_pos O) (den_pos y))
    (omega (arith, zero-mul (upper y), zero-mul (lower y), zero-mul (den y))) zero_is (is_mul O y tt p)

-- ---- the bracket a..b
module _ (a b : Float) (u : Unit a) (v : Unit b) (o : T (le a b)) where
  fa : T (finite a)
  fa = unit_finite a u

  fb : T (finite b)
  fb = unit_finite b v

  ca : (n : ℕ) × Counted a n
  ca = counted a u.fit fa u.low

  cb : (n : ℕ) × Counted b n
  cb = counted b v.fit fb v.low

  abbrev D : ℕ
  D = cb.0 - ca.0

  order : ca.0 ≤ cb.0
  order = counts_le a b ca.0 cb.0 ca.1 cb.1 o

  abbrev w : Float
  w = b ⊖ a

  w_low : T (le O w)
  w_low = le_on O (a ⊖ a) w (self a fa) (sub_mono binary64 a b a fa fb fa o)

  pub w_high : T (le w I)
  w_high =
      le_on w (I ⊖ a) I (sub_mono binary64 b I a fb tt fa v.high)
      (le_on (I ⊖ a) (I ⊖ O) I (sub_turns binary64 O a I tt fa tt u.low) (less_none I (unfold fits in tt) tt))

  fw : T (finite w)
  fw = finite_between O w I tt tt w_low w_high

  exact : (upper b * den a - upper a * den b) * 2 ^ 1074 ≡ D * (den b * den a)
  exact = go (upper b) (den b) (upper a) (den a) cb.0 ca.0 (2 ^ 1074) cb.1.value ca.1.value
    where
      go : (ub db ua da B A t : ℕ) → ub * t ≡ B * db → ua * t ≡ A * da → (ub * da - ua * db) * t ≡ (B - A) * (db * da)
      go ub db ua da B A t e f =
          sub_mul (ub * da) (ua * db) t
          ∙ ap (λ (z : ℕ). z - ua * db * t) (mul_right_comm ub da t ∙ ap (λ (z : ℕ). z * da) e ∙ mul_assoc B db da)
          ∙ ap (λ (z : ℕ). B * (db * da) - z) (mul_right_comm ua db t ∙ ap (λ (z : ℕ). z * db) f ∙ mul_assoc A da db ∙ ap (λ (z : ℕ). A * z) (mul_comm da db))
          ∙ sym (sub_mul B A (db * da))

  w_is : Is binary64 w (upper b * den a) (upper a * den b) (den b * den a)
  w_is =
      subst (λ (p : ℕ). Is binary64 w p (upper a * den b) (den b * den a)) (none₁ (upper b * den a) (lower a) (den b) ca.1.none)
      (subst (λ (n : ℕ). Is binary64 w (upper b * den a + lower a * den b) n (den b * den a)) (none₁ (upper a * den b) (lower b) (den a) cb.1.none)
      (is_sub binary64 b a fb fa))
    where
      none₁ : (p l d : ℕ) → l ≡ 0 → p + l * d ≡ p
      none₁ p l d e = rw e (omega (arith, zero-mul d))

  in_order : upper a * den b ≤ upper b * den a
  in_order = go (upper a) (lower a) (den a) (upper b) (lower b) (den b) ca.1.none cb.1.none (le→parts a b fa fb o)
    where
      go : (ux lx dx uy ly dy : ℕ) → lx ≡ 0 → ly ≡ 0 → ux * dy + ly * dx ≤ uy * dx + lx * dy → ux * dy ≤ uy * dx
      go ux lx dx uy ly dy e f h =
          let e' : lx * dy ≡ 0 = rw e (zero-mul dy) in
          let f' : ly * dx ≡ 0 = rw f (zero-mul dx) in
          omega (arith, e', f')

  w_count : (n : ℕ) × Counted w n × Nearly D n
  w_count =
      ⊎_elim
      (λ e.
      let r : w ≡ round binary64 false D (2 ^ 1074) = e ∙ up_rounded (upper b * den a) (upper a * den b) (den b * den a) in_order ∙ round_same binary64 false
      (upper b * den a - upper a * den b) (den b * den a) D (2 ^ 1074) (mul-pos (den_pos b) (den_pos a)) (pow_pos 1074) exact in
      let k = rounded_count D (subst (λ (z : Float). T (finite z)) r fw) in
      (k.0, subst (λ (z : Float). Counted z k.0) (sym r) k.1, k.2))
      (λ e. (
        0,
        subst (λ (z : Float). Counted z 0) (sym e.0) no_count,
        inl (zero_difference (upper b * den a) (upper a * den b) e.1 D (den b * den a) (2 ^ 1074) (mul-pos (den_pos b) (den_pos a)) exact),
      ))
      w_is
    where
      zero_difference : (p n : ℕ) → p ≡ n → (v c t : ℕ) → 0 < c → (p - n) * t ≡ v * c → 0 ≡ v
      zero_difference p n e zero c t C h = refl
      zero_difference p n e (suc v) c t C h =
          let d : p - n ≡ 0 = omega arith in
          let k : (p - n) * t ≡ 0 = rw d (zero-mul t) in
          absurd (omega (arith, mul-pos {m = suc v} {n = c} (omega arith) C))

  abbrev y : Float
  y = w ⊗ Φ

  fit_w : T (fits binary64 w)
  fit_w = sub-fits binary64 b a

  y_most : T (le y w)
  y_most = less_up w fit_w fw w_low

  y_low : T (le O y)
  y_low = le_on O (O ⊗ Φ) y (none_of_zero Φ tt) (mul_up O w Φ tt fw tt w_low refl)

  fy : T (finite y)
  fy = finite_between O y w tt fw y_low y_most

  abbrev U : ℕ
  U = 347922205179541

  y_is : Is binary64 y (upper w * U) 0 (den w * 2 ^ 49)
  y_is =
      subst (λ (p : ℕ). Is binary64 y p 0 (den w * 2 ^ 49)) (none₁ (upper w * U) (lower w) w_count.1.none)
      (subst (λ (n : ℕ). Is binary64 y (upper w * U + lower w * 0) n (den w * 2 ^ 49)) (none₂ (upper w) (lower w) w_count.1.none) (is_mul w Φ fw tt))
    where
      none₁ : (p l : ℕ) → l ≡ 0 → p + l * 0 ≡ p
      none₁ p l e = omega (arith, mul-zero l)

      none₂ : (u l : ℕ) → l ≡ 0 → u * 0 + l * U ≡ 0
      none₂ u l e = rw e (omega (arith, mul-zero u))

  y_count : (n : ℕ) × Counted y n × (2 ^ 52 * (n * 2 ^ 49) ≤ (2 ^ 52 + 1) * (w_count.0 * U) + 2 ^ 52 * 2 ^ 49)
  y_count =
      ⊎_elim
      (λ e.
      let c = w_count.0 in
      let r : y ≡ round binary64 false (c * U) (2 ^ 1074 * 2 ^ 49) =
      e ∙ up_rounded (upper w * U) 0 (den w * 2 ^ 49) (omega arith) ∙ ap (λ (z : ℕ). round binary64 false z (den w * 2 ^ 49)) (less (upper w * U))
      ∙ round_same binary64 false (upper w * U) (den w * 2 ^ 49) (c * U) (2 ^ 1074 * 2 ^ 49) (mul-pos (den_pos w) (pow_pos 49))
      (mul-pos (pow_pos 1074) (pow_pos 49))
      (mul-mul-mul_comm (upper w) U (2 ^ 1074) (2 ^ 49) ∙ ap (λ (z : ℕ). z * (U * 2 ^ 49)) w_count.1.value ∙ mul-mul-mul_comm c (den w) U (2 ^ 49)) in
      let g = grid binary64 (c * U) (2 ^ 1074 * 2 ^ 49) in (
        g,
        subst (λ (z : Float). Counted z g) (sym r)
            (of_value _ g (round_val binary64 _ _ (round_under binary64 _ _ (subst (λ (z : Float). T (finite z)) r fy)))),
        cut g (c * U) (2 ^ 1074) (pow_pos 1074) (not_more (c * U) (2 ^ 1074 * 2 ^ 49) (mul-pos (pow_pos 1074) (pow_pos 49))),
      ))
      (λ e. (0, subst (λ (z : Float). Counted z 0) (sym e.0) no_count, omega arith))
      y_is
    where
      less : (p : ℕ) → p - 0 ≡ p
      less p = omega arith

      cut : (g c t : ℕ) → 0 < t → 2 ^ 52 * (g * (t * 2 ^ 49)) ≤ (2 ^ 52 + 1) * (c * t) + 2 ^ 52 * (t * 2 ^ 49)
          → 2 ^ 52 * (g * 2 ^ 49) ≤ (2 ^ 52 + 1) * c + 2 ^ 52 * 2 ^ 49
      cut g c t p h =
          le_of_mul-le-mul_right {k = t}
          (le_trans (le_of_eq (mul_assoc (2 ^ 52) (g * 2 ^ 49) t
          ∙ ap (λ (z : ℕ). 2 ^ 52 * z) (mul_assoc g (2 ^ 49) t ∙ ap (λ (z : ℕ). g * z) (mul_comm (2 ^ 49) t))))
          (le_trans h
          (le_of_eq (ap (λ (z : ℕ). z + 2 ^ 52 * (t * 2 ^ 49)) (sym (mul_assoc (2 ^ 52 + 1) c t))
          ∙ ap (λ (z : ℕ). (2 ^ 52 + 1) * c * t + z) (ap (λ (z : ℕ). 2 ^ 52 * z) (mul_comm t (2 ^ 49)) ∙ sym (mul_assoc (2 ^ 52) (2 ^ 49) t))
          ∙ sym (add-mul ((2 ^ 52 + 1) * c) (2 ^ 52 * 2 ^ 49) t)))))
          p

  y_under : y_count.0 ≤ D
  y_under =
      ⊎_elim (λ e. subst (λ (z : ℕ). y_count.0 ≤ z) e (counts_le y w y_count.0 w_count.0 y_count.1 w_count.1 y_most))
      (λ e. small y_count.0 w_count.0 D (six y_count.0 w_count.0 (eighths y_count.0 w_count.0 y_count.2)) e.0
      (nine w_count.0 D e.0 e.1))
      w_count.2
    where
      -- phi is below 5 / 8
      share : (p t q : ℕ) → 2 ^ 52 * p ≤ (2 ^ 52 + 1) * t + 2 ^ 101 → t * 8 ≤ q * 5 → 2 ^ 55 * p ≤ 5 * (2 ^ 52 + 1) * q + 2 ^ 104
      share p t q h k = omega arith

      eighths : (n m : ℕ) → 2 ^ 52 * (n * 2 ^ 49) ≤ (2 ^ 52 + 1) * (m * U) + 2 ^ 52 * 2 ^ 49 → 2 ^ 55 * n ≤ 5 * (2 ^ 52 + 1) * m + 2 ^ 55
      eighths n m h =
          le_of_mul-le-mul_right {k = 2 ^ 49}
          (le_trans (le_of_eq (mul_assoc (2 ^ 55) n (2 ^ 49)))
          (le_trans (share (n * 2 ^ 49) (m * U) (m * 2 ^ 49) h (le_trans (le_of_eq (mul_assoc m U 8))
          (le_trans (mul-le-mul_left m (lit≤ {m = 347922205179541 * 8} {n = 2 ^ 49 * 5} tt)) (le_of_eq (sym (mul_assoc m (2 ^ 49) 5))))))
          (le_of_eq (ap (λ (z : ℕ). z + 2 ^ 104) (sym (mul_assoc (5 * (2 ^ 52 + 1)) m (2 ^ 49))) ∙ sym (add-mul (5 * (2 ^ 52 + 1) * m) (2 ^ 55) (2 ^ 49))))))
          (pow_pos 49)

      nine : (m d : ℕ) → 2 ^ 53 ≤ d → 2 ^ 52 * m ≤ (2 ^ 52 + 1) * d + 2 ^ 52 → 8 * m ≤ 9 * d
      nine m d k l = omega arith

      six : (n m : ℕ) → 2 ^ 55 * n ≤ 5 * (2 ^ 52 + 1) * m + 2 ^ 55 → 8 * n ≤ 6 * m + 8
      six n m h = le_of_mul-le-mul_left {k = 2 ^ 52} (omega arith) (pow_pos 52)

      small : (n m d : ℕ) → 8 * n ≤ 6 * m + 8 → 2 ^ 53 ≤ d → 8 * m ≤ 9 * d → n ≤ d
      small n m d h k l = omega arith

  fits_in : ca.0 + y_count.0 ≤ cb.0
  fits_in = go ca.0 cb.0 y_count.0 order y_under
    where
      go : (a b y : ℕ) → a ≤ b → y ≤ b - a → a + y ≤ b
      go a b y h k = omega arith

  part : phi ⊗ w ≡ y
  part = ap (λ (z : Float). z ⊗ w) phi_is ∙ mul_swap Φ w tt fw

  pub upper_within : T (le a (golden.upper a b)) × T (le (golden.upper a b) b)
  upper_within =
      rw part (
        le_on a (a ⊕ O) (a ⊕ y) (plus_none a u.fit fa) (add_right binary64 O y a tt fy fa y_low),
        sum_under a y b ca.0 y_count.0 cb.0 ca.1 y_count.1 cb.1 fits_in v.fit,
      )

  pub lower_within : T (le a (golden.lower a b)) × T (le (golden.lower a b) b)
  lower_within =
      rw part (
        left_over a y b ca.0 y_count.0 cb.0 ca.1 y_count.1 cb.1 fits_in u.fit,
        le_on (b ⊖ y) (b ⊖ O) b (sub_turns binary64 O y b tt fy fb y_low) (less_none b v.fit fb),
      )

-- ---- either way round: where a is above b, the points are those of b..a, the upper the lower
negated : (v : Float) (p n c : ℕ) → 0 < c → Is binary64 v p n c → Is binary64 (neg v) n p c
negated v p n c C (inl e) =
    by_test (leb n p)
    (λ h.
    let l = leb-true n p h in
    let r : neg v ≡ round binary64 true (p - n) c = ap neg (e ∙ up_rounded p n c l) ∙ sym (round_neg binary64 (p - n) c) in
    by_test (leb p n)
    (λ k.
    let m : p ≡ n = omega (arith, leb-true p n k) in
    inr (ap neg (e ∙ up_rounded p n c l ∙ ap (λ (z : ℕ). round binary64 false z c) (none p n m) ∙ round_zero c C) ∙ unfold neg in refl, sym m))
    (λ k. inl (r ∙ sym (down_rounded n p c (leb-false p n k)))))
    (λ h.
    let l = leb-false n p h in
    inl (ap neg (e ∙ down_rounded p n c l ∙ round_neg binary64 (n - p) c) ∙ neg_neg _ ∙ sym (up_rounded n p c (omega arith))))
  where
    none : (p n : ℕ) → p ≡ n → p - n ≡ 0
    none p n e = omega arith
negated v p n c C (inr (e, m)) =
    inl (ap neg e ∙ unfold neg in refl ∙ sym (up_rounded n p c (omega arith) ∙ ap (λ (z : ℕ). round binary64 false z c) (none p n m) ∙ round_zero c C))
  where
    none : (p n : ℕ) → p ≡ n → n - p ≡ 0
    none p n e = omega arith

-- two that stand for the same fraction are each at most the other
same_fraction : (v w : Float) (p n c : ℕ) → 0 < c → Is binary64 v p n c → Is binary64 w p n c → T (le v w) × T (le w v)
same_fraction v w p n c C i j = (is_le binary64 v w p n c p n c C C (omega arith) i j, is_le binary64 w v p n c p n c C C (omega arith) j i)

module _ (a b : Float) (u : Unit a) (v : Unit b) (o : T (le b a)) where
  ra : T (finite a)
  ra = unit_finite a u

  rb : T (finite b)
  rb = unit_finite b v

  abbrev d : Float
  d = a ⊖ b

  abbrev m : Float
  m = b ⊖ a

  fd : T (finite d)
  fd = fw b a v u o

  ways : T (le m (neg d)) × T (le (neg d) m)
  ways =
      same_fraction m (neg d) _ _ _ (mul-pos (den_pos b) (den_pos a)) (is_sub binary64 b a rb ra)
      (subst (λ (c : ℕ). Is binary64 (neg d) (upper b * den a + lower a * den b) (upper a * den b + lower b * den a) c) (mul_comm (den a) (den b))
      (negated d _ _ _ (mul-pos (den_pos a) (den_pos b)) (is_sub binary64 a b ra rb)))

  fn : T (finite (neg d))
  fn = neg_finite d fd

  fm : T (finite m)
  fm = finite_between (neg d) m (neg d) fn fn ways.1 ways.0

  parts : T (le (neg d ⊗ Φ) (neg (d ⊗ Φ))) × T (le (neg (d ⊗ Φ)) (neg d ⊗ Φ))
  parts =
      let n = neg_upper d in
      same_fraction (neg d ⊗ Φ) (neg (d ⊗ Φ)) _ _ _ (mul-pos (den_pos d) (den_pos Φ))
      (rw (n.0, n.1, n.2) at (is_mul (neg d) Φ fn tt))
      (subst (λ (p : ℕ). Is binary64 (neg (d ⊗ Φ)) p (lower d * lower Φ + upper d * upper Φ) (den d * den Φ)) (add_comm (upper d * lower Φ) (lower d * upper Φ))
      (subst (λ (k : ℕ). Is binary64 (neg (d ⊗ Φ)) (upper d * lower Φ + lower d * upper Φ) k (den d * den Φ)) (add_comm (upper d * upper Φ) (lower d * lower Φ))
      (negated (d ⊗ Φ) _ _ _ (mul-pos (den_pos d) (den_pos Φ)) (is_mul d Φ fd tt))))

  fp : T (finite (neg (d ⊗ Φ)))
  fp = neg_finite (d ⊗ Φ) (fy b a v u o)

  up₁ : T (le (m ⊗ Φ) (neg (d ⊗ Φ)))
  up₁ = le_on (m ⊗ Φ) (neg d ⊗ Φ) (neg (d ⊗ Φ)) (mul_up m (neg d) Φ fm fn tt ways.0 refl) parts.0

  up₂ : T (le (neg (d ⊗ Φ)) (m ⊗ Φ))
  up₂ = le_on (neg (d ⊗ Φ)) (neg d ⊗ Φ) (m ⊗ Φ) parts.1 (mul_up (neg d) m Φ fn fm tt ways.1 refl)

  ft : T (finite (m ⊗ Φ))
  ft = finite_between (neg (d ⊗ Φ)) (m ⊗ Φ) (neg (d ⊗ Φ)) fp fp up₂ up₁

  turned : phi ⊗ m ≡ m ⊗ Φ
  turned = ap (λ (z : Float). z ⊗ m) phi_is ∙ mul_swap Φ m tt fm

  straight : phi ⊗ d ≡ d ⊗ Φ
  straight = ap (λ (z : Float). z ⊗ d) phi_is ∙ mul_swap Φ d tt fd

  -- a + m * phi is a - d * phi, and b - m * phi is b + d * phi
  pub upper_turned : T (le b (golden.upper a b)) × T (le (golden.upper a b) a)
  upper_turned =
      let k = rw straight at (lower_within b a v u o) in
      let e : a ⊖ d ⊗ Φ ≡ a ⊕ neg (d ⊗ Φ) = unfold sub in refl in
      rw turned (
        le_on b (a ⊖ d ⊗ Φ) (a ⊕ m ⊗ Φ) k.0 (rw e (add_right binary64 (neg (d ⊗ Φ)) (m ⊗ Φ) a fp ft ra up₂)),
        le_on (a ⊕ m ⊗ Φ) (a ⊖ d ⊗ Φ) a (rw e (add_right binary64 (m ⊗ Φ) (neg (d ⊗ Φ)) a ft fp ra up₁)) k.1,
      )

  pub lower_turned : T (le b (golden.lower a b)) × T (le (golden.lower a b) a)
  lower_turned =
      let k = rw straight at (upper_within b a v u o) in
      let e : b ⊖ neg (d ⊗ Φ) ≡ b ⊕ d ⊗ Φ = add_is binary64 b (d ⊗ Φ) in
      rw turned (
        le_on b (b ⊕ d ⊗ Φ) (b ⊖ m ⊗ Φ) k.0 (rw (sym e) (sub_turns binary64 (m ⊗ Φ) (neg (d ⊗ Φ)) b ft fp rb up₁)),
        le_on (b ⊖ m ⊗ Φ) (b ⊕ d ⊗ Φ) a (rw (sym e) (sub_turns binary64 (neg (d ⊗ Φ)) (m ⊗ Φ) b fp ft rb up₂)) k.1,
      )

-- ---- so they never leave lo..hi
pub record In (lo hi t : Float) : Type 0 where
  pub unit : Unit t
  pub low : T (le lo t)
  pub high : T (le t hi)

module _ (lo hi a b : Float) (u : In lo hi a) (v : In lo hi b) where
  either_way : (t : Float) → (T (le a b) → T (le a t) × T (le t b)) → (T (le b a) → T (le b t) × T (le t a)) → T (le lo t) × T (le t hi)
  either_way t f g =
      by_test (lt b a)
      (λ l. let k = g (lt_le b a l) in (le_on lo b t v.low k.0, le_on t a hi k.1 u.high))
      (λ l. let k = f (not_below_lem b a (unit_finite b v.unit) (unit_finite a u.unit) l) in (le_on lo a t u.low k.0, le_on t b hi k.1 v.high))

  pub upper_in : In lo hi (golden.upper a b)
  upper_in =
      let k = either_way (golden.upper a b) (λ o. upper_within a b u.unit v.unit o) (λ o. upper_turned a b u.unit v.unit o) in
      record { unit = upper_stays a b u.unit v.unit; low = k.0; high = k.1 }

  pub lower_in : In lo hi (golden.lower a b)
  lower_in =
      let k = either_way (golden.lower a b) (λ o. lower_within a b u.unit v.unit o) (λ o. lower_turned a b u.unit v.unit o) in
      record { unit = lower_stays a b u.unit v.unit; low = k.0; high = k.1 }
