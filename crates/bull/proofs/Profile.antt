-- Beyond the flat part the profile grows with the distance, as it is computed.
use mathlib.Core.Bool.{Bool, true, false, ◌||◌}
use mathlib.Core.Path.{◌≡◌, refl, sym, ◌∙◌}
use lib.Dec.{T}
use lib.Ieee.{Float, binary64, sum, round, add, sub, mul, neg, lt, le, eq, fits, of_bits}
use lib.Ieee.Fits.{sub-fits, mul-fits}
use lib.Ieee.Scale.{finite}
use lib.Ieee.Bits.{is_true}
use Rattle.numbers.specs.Reals.{◌⊖◌, ◌⊗◌, f0, max_of}
use Rattle.roots.specs.Root.{root_of}
use Rattle.rules.proofs.Branches.{left, no, by_test}
use Rattle.order.proofs.Ranges.{finite_between, sub_mono}
use Rattle.plane.proofs.Ranges.{two, minus_two}
use Rattle.order.proofs.Extremes.{either_of, not_below_lem, max_least, max_up}
use Rattle.order.proofs.Order.{O, le_trans, sub_turns, square_up}
use Rattle.order.proofs.Roots.{root_finite, root_le}
use Rattle.bound.proofs.Small.{M, small_up, small_finite, small_sub, small_range, square_nonneg, square_small, square_limit, square_finite, root_limit}
use Rattle.caps.proofs.Bracket.{less_none}
use Rattle.bull.specs.Bull.{bull_profile}

first_false : (a b : Bool) → (a || b) ≡ false → a ≡ false
first_false true b e = absurd (no (sym e))
first_false false b e = refl

le_lt : (x y : Float) → le x y ≡ false → lt x y ≡ false
unfolding le
le_lt x y e = first_false (lt x y) (eq x y) e

-- 3e6, and its square
abbrev L : Float
L = M ⊖ minus_two

-- ---- the numbers behind one distance
module _ (r rc : Float) (r₀ : T (le O r)) (r₁ : T (le r M)) (c₀ : T (le O rc)) (c₁ : T (le rc M)) where
  abbrev w : Float
  w = r ⊖ rc

  fw : T (finite w)
  fw = small_sub r rc (small_up r r₀ r₁) (small_up rc c₀ c₁)

  w_low : T (le minus_two w)
  w_low = (small_range r rc (small_up r r₀ r₁) (small_up rc c₀ c₁)).0

  w_high : T (le w two)
  w_high = (small_range r rc (small_up r r₀ r₁) (small_up rc c₀ c₁)).1

  fc : T (finite rc)
  fc = small_finite rc (small_up rc c₀ c₁)

  abbrev cc₂ : Float
  cc₂ = rc ⊗ rc

  fcc : T (finite cc₂)
  fcc = square_finite rc (small_up rc c₀ c₁)

  module _ (d : Float) (d₀ : T (le O d)) (d₁ : T (le d M)) (e : le (d ⊖ (r ⊖ rc)) f0 ≡ false) where
    fd : T (finite d)
    fd = small_finite d (small_up d d₀ d₁)

    abbrev s : Float
    s = d ⊖ w

    s_high : T (le s L)
    s_high = le_trans s (M ⊖ w) L (sub_mono binary64 d M w fd tt fw d₁) (sub_turns binary64 minus_two w M tt fw tt w_low)

    fs : T (finite s)
    fs =
        finite_between (O ⊖ two) s L (unfold sub add neg sum round in tt) (unfold sub add neg sum round in tt)
        (le_trans (O ⊖ two) (d ⊖ two) s (sub_mono binary64 O d two tt fd tt d₀) (sub_turns binary64 w two d fw tt fd w_high)) s_high

    s_low : T (le O s)
    unfolding of_bits
    s_low = not_below_lem s O fs tt (le_lt s f0 e)

    ss_high : T (le (s ⊗ s) (L ⊗ L))
    ss_high = square_up s L fs (unfold sub add neg sum round in tt) s_low s_high

    fss : T (finite (s ⊗ s))
    fss = finite_between O (s ⊗ s) (L ⊗ L) tt (unfold sub add neg sum mul round in tt) (square_nonneg s fs) ss_high

    abbrev g : Float
    g = cc₂ ⊖ s ⊗ s

    g_high : T (le g (M ⊗ M))
    g_high =
        le_trans g (cc₂ ⊖ O) (M ⊗ M) (sub_turns binary64 O (s ⊗ s) cc₂ tt fss fcc (square_nonneg s fs))
        (le_trans (cc₂ ⊖ O) (M ⊗ M ⊖ O) (M ⊗ M) (sub_mono binary64 cc₂ (M ⊗ M) O fcc square_limit tt (square_small rc (small_up rc c₀ c₁)))
        (unfold sub add neg sum mul round le in tt))

    fg : T (finite g)
    fg =
        finite_between (O ⊖ L ⊗ L) g (M ⊗ M) (unfold sub add neg sum mul round in tt) square_limit
        (le_trans (O ⊖ L ⊗ L) (O ⊖ s ⊗ s) g
        (sub_turns binary64 (s ⊗ s) (L ⊗ L) O fss (unfold sub add neg sum mul round in tt) tt ss_high)
        (sub_mono binary64 O cc₂ (s ⊗ s) tt fcc fss (square_nonneg rc fc)))
        g_high

    abbrev h : Float
    h = max_of g f0

    h_low : T (le O h)
    unfolding of_bits
    h_low = max_least g O fg tt

    fh : T (finite h)
    unfolding of_bits
    fh = either_of (λ v. T (finite v)) g O fg tt

    h_high : T (le h (M ⊗ M))
    unfolding of_bits
    h_high = either_of (λ v. T (le v (M ⊗ M))) g O g_high (unfold mul round le in tt)

    h_fits : T (fits binary64 h)
    unfolding of_bits
    h_fits = either_of (λ v. T (fits binary64 v)) g O (sub-fits binary64 cc₂ (s ⊗ s)) (unfold fits in tt)

    root_small : T (le (root_of h) M)
    root_small =
        le_trans (root_of h) (root_of (M ⊗ M)) M (root_le h (M ⊗ M) h_fits (mul-fits binary64 M M) fh square_limit h_low h_high) root_limit

    fr : T (finite (root_of h))
    fr = (root_finite h h_fits fh h_low).1

    profile_is : bull_profile d r rc ≡ rc ⊖ root_of h
    unfolding bull_profile
    profile_is = sym (left (le s f0) (rc ⊖ root_of h) f0 (rc ⊖ root_of h) e refl)

    pub profile_finite : T (finite (bull_profile d r rc))
    profile_finite = rw profile_is (small_sub rc (root_of h) (small_up rc c₀ c₁) (small_up (root_of h) (root_finite h h_fits fh h_low).0 root_small))

    -- it is nowhere below what it is where s is 0
    g_most : T (le g cc₂)
    g_most =
        le_trans g (cc₂ ⊖ O) cc₂ (sub_turns binary64 O (s ⊗ s) cc₂ tt fss fcc (square_nonneg s fs)) (less_none cc₂ (mul-fits binary64 rc rc) fcc)

    h_most : T (le h cc₂)
    unfolding of_bits
    h_most = either_of (λ v. T (le v cc₂)) g O g_most (square_nonneg rc fc)

    pub profile_low : T (le (rc ⊖ root_of (rc ⊗ rc)) (bull_profile d r rc))
    profile_low =
        rw profile_is
        (sub_turns binary64 (root_of h) (root_of cc₂) rc fr (root_finite cc₂ (mul-fits binary64 rc rc) fcc (square_nonneg rc fc)).1 fc
        (root_le h cc₂ h_fits (mul-fits binary64 rc rc) fh fcc h_low h_most))

    -- ---- a larger distance
    module _ (d' : Float) (d₁' : T (le d' M)) (k : T (le d d')) where
      d₀' : T (le O d')
      d₀' = le_trans O d d' d₀ k

      fd' : T (finite d')
      fd' = small_finite d' (small_up d' d₀' d₁')

      s_up : T (le s (d' ⊖ w))
      s_up = sub_mono binary64 d d' w fd fd' fw k

      pub beyond : le (d' ⊖ (r ⊖ rc)) f0 ≡ false
      beyond =
          by_test (le (d' ⊖ w) f0)
          (λ z. absurd (no (sym e ∙ is_true (le s f0) (le_trans s (d' ⊖ w) f0 s_up (rw z tt)))))
          (λ z. z)

module _ (r rc : Float) (r₀ : T (le O r)) (r₁ : T (le r M)) (c₀ : T (le O rc)) (c₁ : T (le rc M)) (d d' : Float) (d₀ : T (le O d)) (d₁ : T (le d M))
    (e : le (d ⊖ (r ⊖ rc)) f0 ≡ false) (d₁' : T (le d' M)) (k : T (le d d')) where
  e' : le (d' ⊖ (r ⊖ rc)) f0 ≡ false
  e' = beyond r rc r₀ r₁ c₀ c₁ d d₀ d₁ e d' d₁' k

  D₀ : T (le O d')
  D₀ = le_trans O d d' d₀ k

  pub profile_finite' : T (finite (bull_profile d' r rc))
  profile_finite' = profile_finite r rc r₀ r₁ c₀ c₁ d' D₀ d₁' e'

  squares : T (le (s r rc r₀ r₁ c₀ c₁ d d₀ d₁ e ⊗ s r rc r₀ r₁ c₀ c₁ d d₀ d₁ e) (s r rc r₀ r₁ c₀ c₁ d' D₀ d₁' e' ⊗ s r rc r₀ r₁ c₀ c₁ d' D₀ d₁' e'))
  squares =
      square_up (d ⊖ (r ⊖ rc)) (d' ⊖ (r ⊖ rc)) (fs r rc r₀ r₁ c₀ c₁ d d₀ d₁ e) (fs r rc r₀ r₁ c₀ c₁ d' D₀ d₁' e') (s_low r rc r₀ r₁ c₀ c₁ d d₀ d₁ e)
      (s_up r rc r₀ r₁ c₀ c₁ d d₀ d₁ e d' d₁' k)

  roots : T (le (root_of (h r rc r₀ r₁ c₀ c₁ d' D₀ d₁' e')) (root_of (h r rc r₀ r₁ c₀ c₁ d d₀ d₁ e)))
  roots =
      root_le _ _ (h_fits r rc r₀ r₁ c₀ c₁ d' D₀ d₁' e') (h_fits r rc r₀ r₁ c₀ c₁ d d₀ d₁ e) (fh r rc r₀ r₁ c₀ c₁ d' D₀ d₁' e') (fh r rc r₀ r₁ c₀ c₁ d d₀ d₁ e)
      (h_low r rc r₀ r₁ c₀ c₁ d' D₀ d₁' e')
      (max_up _ _ f0 (fg r rc r₀ r₁ c₀ c₁ d d₀ d₁ e) (unfold of_bits in tt)
      (sub_turns binary64 _ _ (rc ⊗ rc) (fss r rc r₀ r₁ c₀ c₁ d d₀ d₁ e) (fss r rc r₀ r₁ c₀ c₁ d' D₀ d₁' e') (fcc r rc r₀ r₁ c₀ c₁) squares))

  pub profile_up : T (le (bull_profile d r rc) (bull_profile d' r rc))
  profile_up =
      rw (profile_is r rc r₀ r₁ c₀ c₁ d d₀ d₁ e, profile_is r rc r₀ r₁ c₀ c₁ d' D₀ d₁' e')
      (sub_turns binary64 _ _ rc (fr r rc r₀ r₁ c₀ c₁ d' D₀ d₁' e') (fr r rc r₀ r₁ c₀ c₁ d d₀ d₁ e) (fc r rc r₀ r₁ c₀ c₁) roots)
