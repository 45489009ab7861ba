-- No candidate of a triangle whose corners are at most `low` is above `from`, which is 2^-15 higher.
use mathlib.Core.Bool.{true, false}
use mathlib.Core.Path.{◌≡◌, refl, ap, ◌∙◌}
use Prim.Native.Nat.{ℕ, ◌+◌, ◌-◌, ◌*◌, ◌^◌, ◌≤◌, ◌<◌}
use native.Mathlib.Nat.{zero-mul, mul-one, one-mul, mul_comm, mul_assoc, mul_left_comm, add-mul, mul-le-mul_right, le_of_mul-le-mul_right}
use native.Mathlib.Omega.{arith}
use lib.Dec.{T}
use lib.IntN.{pos, negsuc}
use lib.Ieee.{Float, nan, inf, fin, down, le}
use lib.Ieee.Positive.{den, den_pos}
use lib.Ieee.Scale.{finite}
use Rattle.numbers.specs.Reals.{◌⊕◌, ◌⊖◌, ◌⊗◌}
use Rattle.order.proofs.Signed.{upper, lower, le→parts, parts→le}
use Rattle.order.proofs.Ranges.{finite_between}
use Rattle.tops.proofs.Fractions.{Held, held_more, held_add, held_sub, held_part, floor, held_floor}
use Rattle.tops.proofs.Products.{G, H}
use Rattle.tops.proofs.Weights.{S, I, facet}

-- ---- order beside fractions
le_above : (x y : Float) (h k o i j : ℕ) → T (finite x) → Held h k o i j y → T (le x y) → h * upper x + o * den x ≤ k * den x + h * lower x
le_above x y h k o i j f g l = cross (upper x) (lower x) (den x) (upper y) (lower y) (den y) (den_pos y) (le→parts x y f g.fine l) g.above
  where
    cross : (u l d u' l' d' : ℕ) → 0 < d' → u * d' + l' * d ≤ u' * d + l * d' → h * u' + o * d' ≤ k * d' + h * l' → h * u + o * d ≤ k * d + h * l
    cross u l d u' l' d' D a b =
        le_of_mul-le-mul_right {m = h * u + o * d} {n = k * d + h * l} {k = d'}
        (simp (add-mul, mul_assoc, mul_comm, mul_left_comm)
        (omega (
          arith,
          simp (add-mul, mul_assoc, mul_comm, mul_left_comm) at (mul-le-mul_right h a),
          simp (add-mul, mul_assoc, mul_comm, mul_left_comm) at (mul-le-mul_right d b),
        )))
        D

held_le : (x y : Float) (h k o i j k' o' i' j' : ℕ) → 0 < h → Held h k o i j x → Held h k' o' i' j' y → k + j' ≤ i' + o → T (le x y)
held_le x y h k o i j k' o' i' j' P a b more =
    parts→le x y a.fine b.fine (cross (upper x) (lower x) (den x) (upper y) (lower y) (den y) a.above b.below)
  where
    cross : (u l d u' l' d' : ℕ) → h * u + o * d ≤ k * d + h * l → i' * d' + h * l' ≤ h * u' + j' * d' → u * d' + l' * d ≤ u' * d + l * d'
    cross u l d u' l' d' p q =
        le_of_mul-le-mul_right {m = u * d' + l' * d} {n = u' * d + l * d'} {k = h}
        (simp (add-mul, mul_assoc, mul_comm, mul_left_comm)
        (omega (
          arith,
          simp (add-mul, mul_assoc, mul_comm, mul_left_comm) at (mul-le-mul_right d' p),
          simp (add-mul, mul_assoc, mul_comm, mul_left_comm) at (mul-le-mul_right d q),
          simp (add-mul, mul_assoc, mul_comm, mul_left_comm) at (mul-le-mul_right (d * d') more),
        )))
        P

-- -2^20, -2^20 + 1, 2^20 and 2^-15
abbrev pub deep : Float
deep = fin true 1 (pos 20)

abbrev pub first : Float
first = fin true 1048575 (pos 0)

abbrev pub last : Float
last = fin false 1 (pos 20)

abbrev pub step : Float
step = fin false 1 (negsuc 14)

module _ (from : Float) (A : T (le first from)) (B : T (le from last)) where
  abbrev low : Float
  low = from ⊖ step

  ff : T (finite from)
  ff = finite_between first from last tt tt A B

  from_low : lower from ≤ 1048575 * den from + upper from
  from_low = omega (arith, le→parts first from tt ff A, mul-one (upper from), mul-one (lower from), zero-mul (den from))

  from_high : upper from ≤ 1048576 * den from + lower from
  from_high = omega (arith, le→parts from last ff tt B, mul-one (upper from), mul-one (lower from), zero-mul (den from))

  n : ℕ
  n = floor from H G ff (omega (arith, from_low))

  hf : Held H (n + 1) G n G from
  unfolding n
  hf = held_floor from H G ff (omega (arith, from_low))

  n_most : n ≤ 2 * G
  n_most = le_of_mul-le-mul_right {m = n} {n = 2 * G} {k = den from} (omega (arith, hf.below, from_high)) (den_pos from)

  n_least : 2 ^ 20 ≤ n + 1
  n_least = le_of_mul-le-mul_right {m = 2 ^ 20} {n = n + 1} {k = den from} (omega (arith, hf.above, from_low)) (den_pos from)

  step_held : Held H 32 0 32 0 step
  step_held = record { fine = tt; above = omega arith; below = omega arith }

  hl : Held H (n + 1 + 0) (G + 32) (n + 0) (G + 32) low
  hl = held_sub from step 20 (n + 1) G n G 32 0 32 0 (omega arith) (omega (arith, n_most)) (omega arith) (omega (arith, n_most)) (omega arith) hf step_held

  abbrev t : ℕ
  t = n - 31

  t_most : t ≤ 2 * G
  t_most = omega (arith, n_most)

  -- a corner
  module _ (z : Float) (D : T (le deep z)) (L : T (le z low)) where
    fz : T (finite z)
    fz = finite_between deep z low tt hl.fine D L

    corner_held : Held H t G 0 G z
    corner_held =
        record {
          fine = fz;
          above = omega (
            arith,
            le_above z low H (n + 1 + 0) (G + 32) (n + 0) (G + 32) fz hl L,
            add-mul (n + 1) 0 (den z),
            add-mul n 1 (den z),
            add-mul t 31 (den z),
            n_least,
            zero-mul (den z),
            split,
          );
          below = omega (arith, le→parts deep z tt fz D, mul-one (upper z), mul-one (lower z), zero-mul (den z));
        }
      where
        split : n * den z ≡ t * den z + 31 * den z
        split = let e : n ≡ t + 31 = omega (arith, n_least) in ap (λ (k : ℕ). k * den z) e ∙ add-mul t 31 (den z)

    pub corner_under : T (le z from)
    corner_under = held_le z from H t G 0 G (n + 1) G n G (omega arith) corner_held hf (omega arith)

  -- a point of an edge
  module _ (a b s : Float) (Da : T (le deep a)) (La : T (le a low)) (Db : T (le deep b)) (Lb : T (le b low))
      (U : T (le (fin false 0 (pos 0)) s)) (W : T (le s I)) where
    ha : Held H t G 0 G a
    ha = corner_held a Da La

    hb : Held H t G 0 G b
    hb = corner_held b Db Lb

    k : ℕ
    k = floor a H G ha.fine (omega (arith, ha.below, zero-mul (den a)))

    hk : Held H (k + 1) G k G a
    unfolding k
    hk = held_floor a H G ha.fine (omega (arith, ha.below, zero-mul (den a)))

    k_most : k ≤ t
    k_most = le_of_mul-le-mul_right {m = k} {n = t} {k = den a} (omega (arith, hk.below, ha.above)) (den_pos a)

    he : Held H (t - k) 0 0 (k + 1) (b ⊖ a)
    he = held_more _ _ _ _ _ _ _ _ _ _ (omega (arith, k_most)) (omega arith) (held_sub b a 20 t G 0 G (k + 1) G k G (omega arith) (omega (arith, t_most))
        (omega (arith, t_most, k_most)) (omega arith) (omega (arith, t_most, k_most)) hb hk)

    fs : T (finite s)
    fs = finite_between (fin false 0 (pos 0)) s I tt tt U W

    s_least : lower s ≡ 0
    s_least = none s fs U
      where
        none : (x : Float) → T (finite x) → T (le (fin false 0 (pos 0)) x) → lower x ≡ 0
        none nan f h = absurd f
        none (inf u) f h = absurd f
        none (fin false m e) f h = refl
        none (fin true m e) f h = omega (arith, le→parts (fin false 0 (pos 0)) (fin true m e) tt tt h, zero-mul (down e))

    s_most : upper s ≤ den s
    s_most = omega (arith, le→parts s I fs tt W, s_least, mul-one (upper s), one-mul (den s), zero-mul (den s))

    edge_held : Held H (k + 1 + (t - k)) (G + 0) (k + 0) (G + (k + 1)) (a ⊕ s ⊗ (b ⊖ a))
    edge_held =
        held_add a (s ⊗ (b ⊖ a)) 20 (k + 1) G k G (t - k) 0 0 (k + 1) (omega arith) (omega (arith, k_most, t_most)) (omega arith)
        (omega (arith, k_most, t_most)) (omega (arith, k_most, t_most)) hk
        (held_part s (b ⊖ a) 20 (t - k) (k + 1) (omega arith) (omega (arith, t_most)) (omega (arith, k_most, t_most)) fs s_least s_most he)

    pub edge_under : T (le (a ⊕ s ⊗ (b ⊖ a)) from)
    edge_under = held_le _ from H _ _ _ _ (n + 1) G n G (omega arith) edge_held hf (omega (arith, k_most, n_least))

  -- a point of the facet
  pub facet_under : (v w a b c : Float) → T (le S v) → T (le S w) → T (le S (I ⊖ v ⊖ w)) → T (le deep a) → T (le a low) → T (le deep b) → T (le b low)
      → T (le deep c) → T (le c low) → T (le ((I ⊖ v ⊖ w) ⊗ a ⊕ v ⊗ b ⊕ w ⊗ c) from)
  facet_under v w a b c p q r Da La Db Lb Dc Lc =
      held_le _ from H _ _ _ _ (n + 1) G n G (omega arith)
      (facet v w p q r a b c t t_most (corner_held a Da La) (corner_held b Db Lb) (corner_held c Dc Lc)) hf (omega (arith, n_least))
