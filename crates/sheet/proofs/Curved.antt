-- A bull-nose end is nowhere below its tip, as it is computed, where the root of its corner radius' square is not above that radius.
use mathlib.Core.Bool.{Bool, true, false, ◌||◌}
use mathlib.Core.Path.{◌≡◌, refl, ap, sym, ◌∙◌}
use Prim.Native.Nat.{ℕ, ◌+◌, ◌*◌, ◌≤◌}
use native.Mathlib.Nat.{mul-pos, mul_assoc, mul_comm, add-mul, zero-mul}
use native.Mathlib.Omega.{arith}
use lib.Dec.{T}
use lib.Ieee.{Float, nan, inf, fin, binary64, sum, round, add, sub, mul, neg, lt, le, eq, fits, of_bits}
use lib.Ieee.Fits.{sub-fits, mul-fits}
use lib.Ieee.Positive.{den, den_pos}
use lib.Ieee.Scale.{finite}
use Rattle.numbers.specs.Reals.{◌⊖◌, ◌⊗◌, f0, million, max_of, million_is, f0_is}
use Rattle.roots.specs.Root.{root_of}
use Rattle.rules.proofs.Branches.{no, by_test}
use Rattle.order.proofs.Signed.{upper, lower, is_le, is_sub}
use Rattle.order.proofs.Ranges.{finite_between, sub_mono}
use Rattle.plane.proofs.Ranges.{Coordinate, extent_positive, two}
use Rattle.order.proofs.Extremes.{either_of, le_self, not_below_lem, max_least, lt_le}
use Rattle.order.proofs.Order.{O, le_trans, sub_turns, square_up, no_lower, own}
use Rattle.order.proofs.Roots.{root_finite, root_le}
use Rattle.bound.proofs.Small.{M, M', Small, small_up, small_finite, small_sub, small_range, square_nonneg, square_finite}
use Rattle.bull.specs.Bull.{bull_profile}

minus_million_is : neg million ≡ M'
unfolding of_bits neg
minus_million_is = refl

as_coordinate : (x : Float) → Small x → Coordinate x
as_coordinate x s = record { low = rw minus_million_is s.low; high = rw million_is s.high }

no_difference : O ⊖ O ≡ O
unfolding sub add sum neg round
no_difference = refl

first_false : (x y : Bool) → (x || y) ≡ false → x ≡ false
first_false true y e = absurd (no (sym e))
first_false false y e = refl

le_lt : (x y : Float) → le x y ≡ false → lt x y ≡ false
unfolding le
le_lt x y e = first_false (lt x y) (eq x y) e

-- taking away what is not negative
less : (a b : Float) → T (fits binary64 a) → T (finite a) → T (finite b) → T (le O b) → T (le (a ⊖ b) a)
less a b g p q h =
    is_le binary64 _ _ _ _ _ _ _ _ (mul-pos (den_pos a) (den_pos b)) (den_pos a)
    (smaller (upper a) (lower a) (den a) (upper b) (lower b) (den b) (no_lower b q h))
    (is_sub binary64 a b p q) (own a g p)
  where
    smaller : (ua la da ub lb db : ℕ) → lb ≡ 0 → (ua * db + lb * da) * da + la * (da * db) ≤ ua * (da * db) + (ub * da + la * db) * da
    smaller ua la da ub lb db z =
        omega (
          arith,
          add-mul (ua * db) (lb * da) da,
          add-mul (ub * da) (la * db) da,
          mul_assoc ua db da,
          mul_assoc la db da,
          mul_comm db da,
          ap (λ (x : ℕ). ua * x)
              (mul_comm db da),
          ap (λ (x : ℕ). la * x) (mul_comm db da),
          ap (λ (x : ℕ). x * da * da) z,
          zero-mul da,
          ap (λ (x : ℕ). x * da) (zero-mul da),
        )

-- a distance that lies beyond the flat part is not negative
beyond : (d w r : Float) → T (finite w) → T (finite r) → T (le O w) → T (le d r) → le (d ⊖ w) f0 ≡ false → T (le O d)
beyond nan w r q p h k e = absurd (unfold le in k)
beyond (inf true) nan r q p h k e = absurd q
beyond (inf true) (inf t) r q p h k e = absurd q
beyond (inf true) (fin t n c) r q p h k e = absurd (no (sym (unfold sub add neg le lt of_bits in e)))
beyond (inf false) w r q p h k e = unfold le lt in tt
beyond (fin s m c) w r q p h k e =
    by_test (lt (fin s m c) O)
    (λ l.
    absurd
    (no
    (sym e ∙ is_true _ (rw f0_is (le_trans (fin s m c ⊖ w) (O ⊖ w) O (sub_mono binary64 (fin s m c) O w tt tt q (lt_le (fin s m c) O l))
    (rw no_difference at (sub_turns binary64 O w O tt q tt h)))))))
    (λ l. not_below_lem (fin s m c) O tt tt l)
  where
    is_true : (b : Bool) → T b → b ≡ true
    is_true true t = refl
    is_true false t = absurd t

module _ (r rc : Float) (r₀ : T (le O r)) (r₁ : T (le r M)) (c₀ : T (le O rc)) (c₁ : T (le rc r)) (fit : T (fits binary64 r))
    (square : T (le (root_of (rc ⊗ rc)) rc)) where
  small_r : Small r
  small_r = small_up r r₀ r₁

  small_c : Small rc
  small_c = small_up rc c₀ (le_trans rc r M c₁ r₁)

  abbrev w : Float
  w = r ⊖ rc

  abbrev a : Float
  a = rc ⊗ rc

  fa : T (finite a)
  fa = square_finite rc small_c

  a₀ : T (le O a)
  a₀ = square_nonneg rc (small_finite rc small_c)

  w₀ : T (le O w)
  w₀ = extent_positive r rc (as_coordinate r small_r) (as_coordinate rc small_c) c₁

  fw : T (finite w)
  fw = small_sub r rc small_r small_c

  small_w : Small w
  small_w = small_up w w₀ (le_trans w r M (less r rc fit (small_finite r small_r) (small_finite rc small_c) c₀) r₁)

  module _ (d : Float) (d₁ : T (le d r)) (e : le (d ⊖ w) f0 ≡ false) where
    abbrev s : Float
    s = d ⊖ w

    small_d : Small d
    small_d = small_up d (beyond d w r fw (small_finite r small_r) w₀ d₁ e) (le_trans d r M d₁ r₁)

    fs : T (finite s)
    fs = small_sub d w small_d small_w

    s₀ : T (le O s)
    unfolding of_bits
    s₀ = not_below_lem s O fs tt (le_lt s f0 e)

    abbrev b : Float
    b = s ⊗ s

    s₁ : T (le s two)
    s₁ = (small_range d w small_d small_w).1

    b₁ : T (le b (two ⊗ two))
    b₁ = square_up s two fs tt s₀ s₁

    fb : T (finite b)
    fb = finite_between O b (two ⊗ two) tt (unfold mul round in tt) (square_nonneg s fs) b₁

    abbrev g : Float
    g = a ⊖ b

    g₁ : T (le g a)
    g₁ = less a b (mul-fits binary64 rc rc) fa fb (square_nonneg s fs)

    fg : T (finite g)
    fg =
        finite_between (O ⊖ two ⊗ two) g a (unfold sub add neg sum mul round in tt) fa
        (le_trans (O ⊖ two ⊗ two) (O ⊖ b) g
        (sub_turns binary64 b (two ⊗ two) O fb (unfold mul round in tt) tt b₁)
        (sub_mono binary64 O a b tt fa fb a₀))
        g₁

    abbrev h : Float
    h = max_of g f0

    h₀ : T (le O h)
    unfolding of_bits
    h₀ = max_least g O fg tt

    fh : T (finite h)
    unfolding of_bits
    fh = either_of (λ v. T (finite v)) g O fg tt

    h₁ : T (le h a)
    unfolding of_bits
    h₁ = either_of (λ v. T (le v a)) g O g₁ a₀

    h_fits : T (fits binary64 h)
    unfolding of_bits
    h_fits = either_of (λ v. T (fits binary64 v)) g O (sub-fits binary64 a b) (unfold fits in tt)

    root₁ : T (le (root_of h) rc)
    root₁ = le_trans (root_of h) (root_of a) rc (root_le h a h_fits (mul-fits binary64 rc rc) fh fa h₀ h₁) square

    root_small : Small (root_of h)
    root_small = small_up (root_of h) (root_finite h h_fits fh h₀).0 (le_trans (root_of h) rc M root₁ small_c.high)

    on_the_arc : T (le O (rc ⊖ root_of h))
    on_the_arc = extent_positive rc (root_of h) (as_coordinate rc small_c) (as_coordinate (root_of h) root_small) root₁

  pub not_below_tip : (d : Float) → T (le d r) → T (le O (bull_profile d r rc))
  unfolding bull_profile
  not_below_tip d d₁ = by_test (le (d ⊖ w) f0) (λ e. rw e (rw f0_is (le_self O tt))) (λ e. rw e (on_the_arc d d₁ e))
