-- A block's height less the profile at its least distance from the strip is an upper bound
-- of the tip's height over all that lies in it, wherever on the strip the axis stands.
use mathlib.Core.Bool.{Bool, true, false, cond}
use mathlib.Core.Path.{◌≡◌, refl, sym, ◌∙◌}
use native.Mathlib.Nat.{zero-mul, mul-one}
use native.Mathlib.Omega.{arith}
use native.Mathlib.Nat.{mul-pos}
use Prim.Native.Nat.{◌+◌, ◌*◌, ◌≤◌}
use lib.Dec.{T}
use lib.Ieee.{Float, binary64, sum, round, add, sub, mul, neg, lt, le, fits, of_bits}
use lib.Ieee.Fits.{sub-fits, mul-fits}
use lib.Ieee.Scale.{finite}
use lib.Ieee.Positive.{den, den_pos}
use Rattle.numbers.specs.Reals.{◌⊖◌, ◌⊗◌, f0, min_of, max_of, f0_is}
use Rattle.roots.specs.Root.{root_of}
use Rattle.roots.specs.Hypot.{count_of, hypot_of}
use Rattle.rules.proofs.Branches.{either, left, taken, no, both_true, by_test, holds}
use Rattle.roots.proofs.Distances.{hypot_counts}
use Rattle.plane.specs.Ranges.{is_coordinate}
use Rattle.order.proofs.Signed.{upper, lower, is_le, is_sub}
use Rattle.order.proofs.Ranges.{finite_between, sub_mono, zero_is}
use Rattle.plane.proofs.Ranges.{two, minus_two}
use Rattle.order.proofs.Extremes.{either_of, le_self, not_below_lem, max_least, min_either, min_second, min_up}
use Rattle.bound.specs.Inside.{nearer_of}
use Rattle.order.proofs.Order.{O, le_trans, sub_turns, square_up, own}
use Rattle.order.proofs.Roots.{root_finite, root_le, distance_low}
use Rattle.bound.proofs.Along.{nearest_count, sub_parts}
use Rattle.bound.proofs.Small.{M, Small, small, small_finite, small_up, small_sub, small_range, small_radius, small_distance, square_nonneg, square_finite}
use Rattle.bull.specs.Bull.{bull_profile}
use Rattle.bull.proofs.Profile.{profile_finite, profile_up}
use Rattle.bull_pass.specs.declared.Strip.{Strip}
use Rattle.bull_pass.specs.declared.Block.{Block}
use Rattle.bull_pass.specs.Inside.{cutter_fair, side_tame, tame_of, least_of, lowered_of, under_of}
use Rattle.bull_pass.proofs.Spread.{minus_between}

pub chosen : (a b : Bool) → cond a b false ≡ true → (a ≡ true) × (b ≡ true)
chosen true b e = (refl, e)
chosen false b e = absurd (no e)

other : (a b : Bool) → cond a true b ≡ true → a ≡ false → b ≡ true
other true b e f = absurd (no (sym f))
other false b e f = e

le_lt : (x y : Float) → le x y ≡ false → lt x y ≡ false
unfolding le
le_lt x y e = by_test (lt x y) (λ l. absurd (no (sym e ∙ (rw l)))) (λ l. l)

-- ---- 0 beside a number and its difference from itself
pub less_none : (a : Float) → T (fits binary64 a) → T (finite a) → T (le (a ⊖ O) a)
less_none a g p =
    is_le binary64 _ _ _ _ _ _ _ _ (mul-pos (den_pos a) (den_pos O)) (den_pos a)
    (rw (mul-one (den a)) (omega (arith, zero-mul (den a), mul-one (upper a), mul-one (lower a))))
    (is_sub binary64 a O p tt) (own a g p)

pub itself : (a : Float) → T (finite a) → T (le O (a ⊖ a))
itself a p =
    is_le binary64 _ _ _ _ _ _ _ _ (omega arith) (mul-pos (den_pos a) (den_pos a))
    (omega (arith, zero-mul (den a * den a), mul-one (upper a * den a + lower a * den a)))
    zero_is (is_sub binary64 a a p p)

-- ---- the profile is not below 0
abbrev L : Float
L = M ⊖ minus_two

module _ (r rc : Float) (r₀ : T (le O r)) (r₁ : T (le r M)) (c₀ : T (le O rc)) (c₁ : T (le rc M)) (kept : T (le (root_of (rc ⊗ rc)) rc)) where
  abbrev w : Float
  w = r ⊖ rc

  abbrev cc : Float
  cc = rc ⊗ rc

  fc : T (finite rc)
  fc = small_finite rc (small_up rc c₀ c₁)

  fcc : T (finite cc)
  fcc = square_finite rc (small_up rc c₀ c₁)

  module _ (d : Float) (d₀ : T (le O d)) (d₁ : T (le d M)) where
    fd : T (finite d)
    fd = small_finite d (small_up d d₀ d₁)

    abbrev s : Float
    s = d ⊖ w

    fw : T (finite w)
    fw = small_sub r rc (small_up r r₀ r₁) (small_up rc c₀ c₁)

    range : T (le minus_two w) × T (le w two)
    range = small_range r rc (small_up r r₀ r₁) (small_up rc c₀ c₁)

    s_high : T (le s L)
    s_high = le_trans s (M ⊖ w) L (sub_mono binary64 d M w fd tt fw d₁) (sub_turns binary64 minus_two w M tt fw tt range.0)

    fs : T (finite s)
    fs =
        finite_between (O ⊖ two) s L (unfold sub add neg sum round in tt) (unfold sub add neg sum round in tt)
        (le_trans (O ⊖ two) (d ⊖ two) s (sub_mono binary64 O d two tt fd tt d₀) (sub_turns binary64 w two d fw tt fd range.1)) s_high

    module _ (e : le s f0 ≡ false) where
      s_low : T (le O s)
      unfolding of_bits
      s_low = not_below_lem s O fs tt (le_lt s f0 e)

      ss_high : T (le (s ⊗ s) (L ⊗ L))
      ss_high = square_up s L fs (unfold sub add neg sum round in tt) s_low s_high

      fss : T (finite (s ⊗ s))
      fss = finite_between O (s ⊗ s) (L ⊗ L) tt (unfold sub add neg sum mul round in tt) (square_nonneg s fs) ss_high

      abbrev g : Float
      g = cc ⊖ s ⊗ s

      g_high : T (le g cc)
      g_high = le_trans g (cc ⊖ O) cc (sub_turns binary64 O (s ⊗ s) cc tt fss fcc (square_nonneg s fs)) (less_none cc (mul-fits binary64 rc rc) fcc)

      fg : T (finite g)
      fg =
          finite_between (O ⊖ L ⊗ L) g cc (unfold sub add neg sum mul round in tt) fcc
          (le_trans (O ⊖ L ⊗ L) (O ⊖ s ⊗ s) g
          (sub_turns binary64 (s ⊗ s) (L ⊗ L) O fss (unfold sub add neg sum mul round in tt) tt ss_high)
          (sub_mono binary64 O cc (s ⊗ s) tt fcc fss (square_nonneg rc fc)))
          g_high

      abbrev h : Float
      h = max_of g f0

      h_low : T (le O h)
      unfolding of_bits
      h_low = max_least g O fg tt

      h_high : T (le h cc)
      unfolding of_bits
      h_high = either_of (λ v. T (le v cc)) g O g_high (square_nonneg rc fc)

      fh : T (finite h)
      unfolding of_bits
      fh = either_of (λ v. T (finite v)) g O fg tt

      h_fits : T (fits binary64 h)
      unfolding of_bits
      h_fits = either_of (λ v. T (fits binary64 v)) g O (sub-fits binary64 cc (s ⊗ s)) (unfold fits in tt)

      root_high : T (le (root_of h) rc)
      root_high = le_trans (root_of h) (root_of cc) rc (root_le h cc h_fits (mul-fits binary64 rc rc) fh fcc h_low h_high) kept

      beyond_low : T (le O (rc ⊖ root_of h))
      beyond_low = le_trans O (rc ⊖ rc) (rc ⊖ root_of h) (itself rc fc) (sub_turns binary64 (root_of h) rc rc (root_finite h h_fits fh h_low).1 fc fc root_high)

    profile_low : T (le O (bull_profile d r rc)) × T (finite (bull_profile d r rc))
    profile_low =
        by_test (le s f0)
        (λ e. let q : f0 ≡ bull_profile d r rc = unfold bull_profile in taken (le s f0) f0 f0 (rc ⊖ root_of (max_of (cc ⊖ s ⊗ s) f0)) e refl in
        rw (sym q, f0_is) (le_self O tt, tt))
        (λ e. let q : rc ⊖ root_of (h e) ≡ bull_profile d r rc = unfold bull_profile in left (le s f0) (rc ⊖ root_of (h e)) f0 (rc ⊖ root_of (h e)) e refl in
        ((rw (sym q) (beyond_low e)), profile_finite r rc r₀ r₁ c₀ c₁ d d₀ d₁ e))

  pub profile_rises : (d d' : Float) → T (le O d) → T (le d d') → T (le d' M) → T (le (bull_profile d r rc) (bull_profile d' r rc))
      × T (finite (bull_profile d r rc)) × T (le O (bull_profile d' r rc)) × T (finite (bull_profile d' r rc))
  profile_rises d d' a b c =
      let d₁ = le_trans d d' M b c in
      let low = profile_low d a d₁ in
      let high = profile_low d' (le_trans O d d' a b) c in (
        by_test (le (d ⊖ (r ⊖ rc)) f0)
            (λ e. let q : f0 ≡ bull_profile d r rc = unfold bull_profile in
            taken (le (d ⊖ (r ⊖ rc)) f0) f0 f0 (rc ⊖ root_of (max_of (cc ⊖ (d ⊖ (r ⊖ rc)) ⊗ (d ⊖ (r ⊖ rc))) f0)) e refl in rw (sym q, f0_is) high.0)
            (λ e. profile_up r rc r₀ r₁ c₀ c₁ d d' a d₁ e c b),
        low.1,
        high.0,
        high.1,
      )

-- ---- one side
module _ (low high a b p x : Float) (e : side_tame low high a b ≡ true) (lp : T (le low p)) (ph : T (le p high)) (ax : T (le a x)) (xb : T (le x b)) where
  parts : Small (low ⊖ b) × Small (high ⊖ a)
  unfolding side_tame
  parts = let t = both_true _ _ e in (small _ t.0, small _ t.1)

  lows : T (finite low) × T (finite b)
  lows = sub_parts low b (small_finite _ parts.0)

  highs : T (finite high) × T (finite a)
  highs = sub_parts high a (small_finite _ parts.1)

  fp : T (finite p)
  fp = finite_between low p high lows.0 highs.0 lp ph

  fx : T (finite x)
  fx = finite_between a x b highs.1 lows.1 ax xb

  pub bounds : T (le (low ⊖ b) (p ⊖ x)) × T (le (p ⊖ x) (high ⊖ a))
  bounds = minus_between p x low high a b lows.0 highs.0 highs.1 lows.1 fp fx lp ph ax xb

  pub there : Small (p ⊖ x)
  there = record { low = le_trans _ (low ⊖ b) _ parts.0.low bounds.0; high = le_trans _ (high ⊖ a) _ bounds.1 parts.1.high }

  nearer_fine : T (finite (nearer_of (low ⊖ b) (high ⊖ a)))
  unfolding nearer_of of_bits
  nearer_fine =
      either (λ v. T (finite v)) (lt f0 (low ⊖ b)) (low ⊖ b) (cond (lt (high ⊖ a) f0) (high ⊖ a) f0) (λ q. small_finite _ parts.0)
      (λ q. either (λ v. T (finite v)) (lt (high ⊖ a) f0) (high ⊖ a) f0 (λ g. small_finite _ parts.1) (λ g. tt))

  nearer_count : count_of (nearer_of (low ⊖ b) (high ⊖ a)) ≤ count_of (p ⊖ x)
  nearer_count = nearest_count (low ⊖ b) (high ⊖ a) (p ⊖ x) (small_finite _ parts.0) (small_finite _ parts.1)
      (small_finite _ there) bounds.0 bounds.1

-- the axis stands on the strip
pub record OnStrip (k : Strip) (x y : Float) : Type 0 where
  pub left : T (le k.low_x x)
  pub right : T (le x k.high_x)
  pub front : T (le k.low_y y)
  pub back : T (le y k.high_y)

-- a place lies in the block
pub record InBlock (b : Block) (px py pz : Float) : Type 0 where
  pub left : T (le b.low_x px)
  pub right : T (le px b.high_x)
  pub front : T (le b.low_y py)
  pub back : T (le py b.high_y)
  pub under : T (le pz b.z)
  pub fine : T (finite pz)

module _ (k : Strip) (b : Block) (cut : cutter_fair k.r k.rc ≡ true) (u : under_of k b ≡ true) (x y px py pz : Float) (on : OnStrip k x y)
    (at : InBlock b px py pz) where
  tame : (side_tame b.low_x b.high_x k.low_x k.high_x ≡ true) × (side_tame b.low_y b.high_y k.low_y k.high_y ≡ true)
      × (is_coordinate b.z ≡ true)
  unfolding under_of tame_of
  tame = let p = both_true _ _ (chosen _ _ u).0 in let q = both_true _ _ p.1 in (p.0, q.0, q.1)

  radii : T (le O k.r) × T (le k.r M) × T (le O k.rc) × T (le k.rc M) × T (le (root_of (k.rc ⊗ k.rc)) k.rc)
  unfolding cutter_fair
  radii =
      let p = both_true _ _ cut in
      let q = both_true _ _ p.1 in
      let r = small_radius k.r p.0 in
      let c = small_radius k.rc q.0 in
      (r.0, r.1, c.0, c.1, holds _ q.1)

  abbrev sx : Float
  sx = px ⊖ x

  abbrev sy : Float
  sy = py ⊖ y

  tx : Small sx
  tx = there _ _ _ _ px x tame.0 at.left at.right on.left on.right

  ty : Small sy
  ty = there _ _ _ _ py y tame.1 at.front at.back on.front on.back

  abbrev nx : Float
  nx = nearer_of (b.low_x ⊖ k.high_x) (b.high_x ⊖ k.low_x)

  abbrev ny : Float
  ny = nearer_of (b.low_y ⊖ k.high_y) (b.high_y ⊖ k.low_y)

  fnx : T (finite nx)
  fnx = nearer_fine _ _ _ _ px x tame.0 at.left at.right on.left on.right

  fny : T (finite ny)
  fny = nearer_fine _ _ _ _ py y tame.1 at.front at.back on.front on.back

  abbrev far : Float
  far = hypot_of sx sy

  far_fine : T (le O far) × T (finite far)
  far_fine = small_distance sx sy tx ty

  farther : T (le (least_of k b) far)
  unfolding least_of
  farther =
      hypot_counts nx ny sx sy fnx fny (small_finite sx tx) (small_finite sy ty)
      (nearer_count _ _ _ _ px x tame.0 at.left at.right on.left on.right)
      (nearer_count _ _ _ _ py y tame.1 at.front at.back on.front on.back)

  least_low : T (le O (least_of k b))
  unfolding least_of
  least_low = distance_low nx ny fnx fny

  least_fine : T (finite (least_of k b))
  least_fine = finite_between O _ far tt far_fine.1 least_low farther

  fr : T (finite k.r)
  fr = finite_between O k.r M tt tt radii.0 radii.1

  abbrev d : Float
  d = min_of (least_of k b) k.r

  abbrev D : Float
  D = min_of far k.r

  rises : T (le (bull_profile d k.r k.rc) (bull_profile D k.r k.rc)) × T (finite (bull_profile d k.r k.rc))
      × T (le O (bull_profile D k.r k.rc)) × T (finite (bull_profile D k.r k.rc))
  rises =
      profile_rises k.r k.rc radii.0 radii.1 radii.2 radii.3 radii.4 d D
      (min_either (λ v. T (le O v)) (least_of k b) k.r least_low radii.0)
      (min_up (least_of k b) far k.r least_fine fr farther)
      (le_trans D k.r M (min_second far k.r far_fine.1 fr) radii.1)

  fz : T (finite b.z)
  fz = small_finite _ (small _ tame.2)

  -- by the profile, or without it
  with_profile : lowered_of k b ≡ true → T (le (pz ⊖ bull_profile D k.r k.rc) k.high)
  unfolding lowered_of
  with_profile e =
      let P = bull_profile d k.r k.rc in
      le_trans _ (pz ⊖ P) k.high (sub_turns binary64 P _ pz rises.1 rises.3 at.fine rises.0)
      (le_trans (pz ⊖ P) (b.z ⊖ P) k.high (sub_mono binary64 pz b.z P at.fine fz rises.1 at.under) (holds _ e))

  without : le (b.z ⊖ f0) k.high ≡ true → T (le (pz ⊖ bull_profile D k.r k.rc) k.high)
  without e =
      le_trans _ (pz ⊖ O) k.high (sub_turns binary64 O _ pz tt rises.3 at.fine rises.2)
      (le_trans (pz ⊖ O) (b.z ⊖ O) k.high (sub_mono binary64 pz b.z O at.fine fz tt at.under) (holds _ (rw f0_is at e)))

  second : le (b.z ⊖ f0) k.high ≡ false → lowered_of k b ≡ true
  unfolding under_of
  second e = other (le (b.z ⊖ f0) k.high) (lowered_of k b) (chosen (tame_of k b) (cond (le (b.z ⊖ f0) k.high) true (lowered_of k b)) u).1 e

  pub block_under : T (le (pz ⊖ bull_profile (min_of (hypot_of (px ⊖ x) (py ⊖ y)) k.r) k.r k.rc) k.high)
  block_under = by_test (le (b.z ⊖ f0) k.high) without (λ e. with_profile (second e))
