-- Where the boxes of the edges and of a part of the chord lie more than r apart, and no point of the part's box counts as inside, the triangle is more than r
-- away from every point of the part. A search looks at places from 0 to 1 alone: it finds none within reach where this holds of the chord, or of its quarters.
use Rattle.plane.specs.Contacts.{at_height}
use Rattle.std.specs.Prelude.{None, Option, Some}
use mathlib.Core.Bool.{Bool, true, false, cond}
use mathlib.Core.Logic.{◌⊎◌, inl, inr}
use mathlib.Core.Path.{◌≡◌, refl, sym, ap, ◌∙◌}
use Prim.Native.Nat.{ℕ}
use lib.Dec.{T}
use lib.Ieee.{Float, nan, inf, fin, binary64, add, mul, lt, le, eq, fits, of_bits}
use lib.Ieee.Bits.{is_true}
use lib.Ieee.Fits.{add-fits}
use lib.Ieee.Scale.{finite}
use Rattle.numbers.specs.Reals.{◌⊕◌, ◌⊖◌, ◌⊗◌, f0, f1, minus_slack, min_of, max_of, f0_is}
use Rattle.roots.specs.Root.{root_of}
use Rattle.rules.proofs.Branches.{either, by_test, no, holds, both_true}
use Rattle.plane.specs.declared.Triangle.{Triangle}
use Rattle.plane.specs.declared.Touch.{Touch}
use Rattle.plane.specs.declared.Contact.{Contact}
use Rattle.plane.specs.declared.Weights.{Weights}
use Rattle.plane.specs.Distance.{farthest, dist2_to_segment, bary_of, at_least, inside}
use Rattle.cutters.specs.Touch.{along, weighed_of, spot_height}
use Rattle.order.proofs.Extremes.{not_below_lem, min_either, lt_le, le_not_nan}
use Rattle.order.proofs.Order.{O, le_trans, add_left, add_right, square_up, square_down}
use Rattle.order.proofs.Strict.{le_not_lt}
use Rattle.bound.specs.Inside.{nearer_of}
use Rattle.bound.proofs.Unit.{I, Unit, unit_finite}
use Rattle.bound.proofs.Held.{argmin_held}
use Rattle.bound.proofs.Small.{Small, small, small_finite, zero_square, square_nonneg, square_finite, sum_nonneg, sum_finite}
use Rattle.apart.specs.Inside.{at, lowest_on, highest_on}
use Rattle.apart.proofs.Farther.{Place, nowhere, within, nearest, nan_way, ab_spanned, bc_spanned, ca_spanned}
use Rattle.caps.proofs.Places.{not_less, number_of}
use Rattle.reach.specs.declared.Chord.{Chord}
use Rattle.reach.specs.Reach.{apart_at, near_of, stretch_from, stretch_of}
use Rattle.reach.specs.Inside.{edge_square, square_xy, square_at}
use Rattle.reach.proofs.Apart.{roots_rise}
use Rattle.reach.proofs.Squares.{apart_root}
use Rattle.bull_pass.specs.declared.Range.{Range}
use Rattle.bull_pass.specs.Inside.{axis_fair, side_tame, misses_of}
use Rattle.bull_pass.proofs.Spread.{along_part}
use Rattle.bull_pass.proofs.Blocks.{bounds, there}
use Rattle.bull_pass.proofs.Facets.{facet_none}
use Rattle.afar.specs.declared.Side.{Side}
use Rattle.afar.specs.Inside.{edges_of, side_of, way_of, square_of, first_of, last_of, upright_of, off_of, Fair, Clear, Off}
use Rattle.afar.specs.Inside.{quarter, half, three_quarters, Quarters}

-- ---- of the numbers from low to high the one that is nearest to 0 has the least square
none_small : Small f0
unfolding of_bits le lt eq
none_small = record { low = tt; high = tt }

nearer_small : (low high : Float) → Small low → Small high → Small (nearer_of low high)
unfolding nearer_of
nearer_small low high s t =
    either Small (lt f0 low) low (cond (lt high f0) high f0) (λ e. s) (λ e. either Small (lt high f0) high f0 (λ g. t) (λ g. none_small))

nearer_square : (low high c : Float) → T (finite low) → T (finite high) → T (finite c) → T (le low c) → T (le c high)
    → T (le (nearer_of low high ⊗ nearer_of low high) (c ⊗ c))
unfolding nearer_of
nearer_square low high c p q r h k =
    by_test (lt f0 low)
    (λ e. rw e (square_up low c p r (rw f0_is at (lt_le f0 low e)) h))
    (λ e.
    by_test (lt high f0)
    (λ g. rw (e, g) (square_down high c q r (rw f0_is at (lt_le high f0 g)) k))
    (λ g. rw (e, g, f0_is, zero_square) (square_nonneg c r)))

-- ---- one coordinate: a way from the chord to an edge is at least as long as the shortest between the boxes
abbrev Longer : Float → Float → Type 0
Longer w c = Small c × T (le (w ⊗ w) (c ⊗ c))

module _ (a b c p q lo hi : Float) (A : axis_fair p q lo hi ≡ true) (F : Fair a b c p q (side_of (edges_of a b c) p q lo hi)) where
  abbrev first : Float
  first = min_of (at p q lo) (at p q hi)

  abbrev last : Float
  last = max_of (at p q lo) (at p q hi)

  tame : side_tame (lowest_on a b c) (highest_on a b c) first last ≡ true
  unfolding side_of edges_of
  tame = F.tame

  ends : Small (lowest_on a b c ⊖ last) × Small (highest_on a b c ⊖ first)
  unfolding side_tame
  ends = let t = both_true _ _ tame in (small _ t.0, small _ t.1)

  abbrev w : Float
  w = way_of (side_of (edges_of a b c) p q lo hi)

  way_small : Small w
  unfolding way_of side_of edges_of
  way_small = nearer_small _ _ ends.0 ends.1

  module _ (s : Float) (l : T (le lo s)) (h : T (le s hi)) where
    on_chord : T (le first (at p q s)) × T (le (at p q s) last)
    unfolding axis_fair
    on_chord =
        let f = both_true _ _ A in
        let i = along_part p q lo hi s l h (small_finite _ (small _ f.0)) (small_finite _ (small _ f.1)) in
        (i.low, i.high)

    longer : (z : Float) → T (le (lowest_on a b c) z) × T (le z (highest_on a b c)) → Longer w (z ⊖ at p q s)
    unfolding way_of side_of edges_of
    longer z i =
        let k = there _ _ _ _ z (at p q s) tame i.0 i.1 on_chord.0 on_chord.1 in
        let j = bounds _ _ _ _ z (at p q s) tame i.0 i.1 on_chord.0 on_chord.1 in
        (k, nearer_square _ _ _ (small_finite _ ends.0) (small_finite _ ends.1) (small_finite _ k) j.0 j.1)

    ab_longer : (t : Float) → T (le O t) → T (le t I) → Longer w (at a b t ⊖ at p q s)
    ab_longer t i j = longer (at a b t) (ab_spanned a b c p q F.fit_a F.fit_b F.fit_c F.fit_p F.fine t i j)

    bc_longer : (t : Float) → T (le O t) → T (le t I) → Longer w (at b c t ⊖ at p q s)
    bc_longer t i j = longer (at b c t) (bc_spanned a b c p q F.fit_a F.fit_b F.fit_c F.fit_p F.fine t i j)

    ca_longer : (t : Float) → T (le O t) → T (le t I) → Longer w (at c a t ⊖ at p q s)
    ca_longer t i j = longer (at c a t) (ca_spanned a b c p q F.fit_a F.fit_b F.fit_c F.fit_p F.fine t i j)

-- ---- both: the square of the distance from an edge is at least that of the shortest way, or no number, which the nearest edge's passes over
abbrev Over : Float → Float → Type 0
Over q d = (d ≡ nan) ⊎ T (le q d)

module _ (wx wy : Float) (sx : Small wx) (sy : Small wy) where
  abbrev q : Float
  q = wx ⊗ wx ⊕ wy ⊗ wy

  q_fine : T (finite q)
  q_fine = sum_finite wx wy sx sy

  q_low : T (le O q)
  q_low =
      sum_nonneg (wx ⊗ wx) (wy ⊗ wy) (square_finite wx sx) (square_finite wy sy) (square_nonneg wx (small_finite wx sx)) (square_nonneg wy (small_finite wy sy))

  sum_over : (c d : Float) → Longer wx c → Longer wy d → T (le q (c ⊗ c ⊕ d ⊗ d))
  sum_over c d i j =
      let x = square_finite wx sx in
      let y = square_finite wy sy in
      let f = square_finite c i.0 in
      le_trans q (c ⊗ c ⊕ wy ⊗ wy) (c ⊗ c ⊕ d ⊗ d) (add_left binary64 (wx ⊗ wx) (c ⊗ c) (wy ⊗ wy) x f y i.1)
      (add_right binary64 (wy ⊗ wy) (d ⊗ d) (c ⊗ c) y (square_finite d j.0) f j.1)

  segment_over : (x y a a₁ b b₁ : Float) → ((t : Float) → T (le O t) → T (le t I) → Longer wx (at a b t ⊖ x))
      → ((t : Float) → T (le O t) → T (le t I) → Longer wy (at a₁ b₁ t ⊖ y))
      → Over q (dist2_to_segment x y a a₁ b b₁)
  unfolding dist2_to_segment
  segment_over x y a a₁ b b₁ X Y = go _ (nearest x y a a₁ b b₁)
    where
      go : (t : Float) → Place t → Over q ((at a b t ⊖ x) ⊗ (at a b t ⊖ x) ⊕ (at a₁ b₁ t ⊖ y) ⊗ (at a₁ b₁ t ⊖ y))
      go t (nowhere e) = inl (rw (e, nan_way a b x) (unfold mul add in refl))
      go t (within l h) = inr (sum_over _ _ (X t l h) (Y t l h))

-- ---- the nearest edge
min_over : (q x y : Float) → T (le q x) → Over q y → T (le q (min_of x y))
min_over q x y h (inl e) = rw e (unfold min_of lt in rw (le_not_nan q x h) h)
min_over q x y h (inr k) = min_either (λ v. T (le q v)) x y h k

under_farthest : (q : Float) → T (finite q) → T (le q farthest)
unfolding of_bits le lt eq
under_farthest nan p = absurd p
under_farthest (inf s) p = absurd p
under_farthest (fin s m e) p = tt

nearest_over : (t : Triangle) (x y q : Float) → T (finite q) → Over q (dist2_to_segment x y t.ax t.ay t.bx t.by)
    → Over q (dist2_to_segment x y t.bx t.by t.cx t.cy) → Over q (dist2_to_segment x y t.cx t.cy t.ax t.ay)
    → T (le q (edge_square t x y))
unfolding edge_square
nearest_over t x y q f ab bc ca = min_over q _ _ (min_over q _ _ (min_over q farthest _ (under_farthest q f) ab) bc) ca

edge_fits : (t : Triangle) (x y : Float) → T (fits binary64 (edge_square t x y))
unfolding edge_square dist2_to_segment
edge_fits t x y =
    min_either (λ v. T (fits binary64 v)) _ _
    (min_either (λ v. T (fits binary64 v)) _ _
    (min_either (λ v. T (fits binary64 v)) farthest _ (unfold of_bits fits in tt) (add-fits binary64 _ _)) (add-fits binary64 _ _)) (add-fits binary64 _ _)

-- ---- a place where the facet has no candidate is not inside, and on a triangle that stands upright none is
abbrev some : Option Contact → Bool
some None = false
some (Some m) = true

none_some : (b : Bool) (z : Float) (f : Touch) → cond b (at_height z f) None ≡ None → b ≡ false
none_some true z f e = absurd (no (sym (ap some e)))
none_some false z f e = refl

slack_under : (v : Float) → le f0 v ≡ true → le minus_slack v ≡ true
slack_under v e = is_true _ (le_trans minus_slack f0 v (unfold of_bits le lt eq in tt) (holds _ e))

all_under : (p : Weights) → at_least p f0 ≡ true → at_least p minus_slack ≡ true
unfolding at_least
all_under p e =
    let a = both_true _ _ e in
    let b = both_true _ _ a.1 in
    rw (slack_under _ a.0, slack_under _ b.0, slack_under _ b.1)

not_inside : (t : Triangle) (s : Option Weights) → spot_height t f0 s ≡ None → inside s ≡ false
unfolding spot_height weighed_of inside
not_inside t None e = refl
not_inside t (Some p) e =
    by_test (at_least p f0) (λ i. absurd (no (sym (none_some (at_least p minus_slack) _ _ e) ∙ all_under p i))) (λ i. i)

upright_none : (t : Triangle) (x y : Float) → upright_of t ≡ true → inside (bary_of t x y) ≡ false
unfolding upright_of bary_of inside
upright_none t x y e = rw e

-- ---- the chord
past : (x y z : Float) → lt x y ≡ true → T (le y z) → lt x z ≡ true
past x y z l h =
    by_test (lt x z) (λ e. e)
    (λ e. absurd (le_not_lt y x (is_true _ (le_trans y z x h (not_less x z (number_of _ _ (lt_le x y l)).0 (number_of _ _ h).1 e))) l))

none_unit : Unit f0
unfolding of_bits le lt eq fits
none_unit = record { low = tt; high = tt; fit = tt }

one_unit : Unit f1
unfolding of_bits le lt eq fits
one_unit = record { low = tt; high = tt; fit = tt }

module _ (t : Triangle) (m : Chord) (r : Float) where
  abbrev ex : Range
  ex = edges_of t.ax t.bx t.cx

  abbrev ey : Range
  ey = edges_of t.ay t.by t.cy

  -- a part from lo to hi
  module _ (lo hi : Float) (k : Off t m r ex ey lo hi) where
    abbrev x : Side
    x = side_of ex m.ax m.bx lo hi

    abbrev y : Side
    y = side_of ey m.ay m.by lo hi

    axes : (axis_fair m.ax m.bx lo hi ≡ true) × (axis_fair m.ay m.by lo hi ≡ true)
    axes = both_true _ _ k.clear.axes

    sx : Small (way_of x)
    sx = way_small _ _ _ _ _ lo hi axes.0 k.clear.fair_x

    sy : Small (way_of y)
    sy = way_small _ _ _ _ _ lo hi axes.1 k.clear.fair_y

    module _ (s : Float) (l : T (le lo s)) (h : T (le s hi)) where
      abbrev px : Float
      px = along m.ax m.bx s

      abbrev py : Float
      py = along m.ay m.by s

      missed : misses_of t (first_of x y) (last_of x y) ≡ true → inside (bary_of t px py) ≡ false
      unfolding first_of last_of side_of
      missed e =
          let i = on_chord _ _ _ _ _ lo hi axes.0 k.clear.fair_x s l h in
          let j = on_chord _ _ _ _ _ lo hi axes.1 k.clear.fair_y s l h in
          not_inside t (bary_of t px py) (facet_none t (first_of x y) (last_of x y) e px py i.0 i.1 j.0 j.1 f0)

      outside : inside (bary_of t px py) ≡ false
      unfolding off_of
      outside = by_test (upright_of t) (upright_none t px py) (λ e. missed (rw e at k.clear.off))

      square_is : square_at t m s ≡ edge_square t px py
      unfolding square_at square_xy
      square_is = rw outside

      over : T (le (square_of x y) (edge_square t px py))
      unfolding square_of
      over =
          let i = k.clear.fair_x in
          let j = k.clear.fair_y in
          nearest_over t px py _ (q_fine _ _ sx sy)
          (segment_over _ _ sx sy px py _ _ _ _ (ab_longer _ _ _ _ _ lo hi axes.0 i s l h) (ab_longer _ _ _ _ _ lo hi axes.1 j s l h))
          (segment_over _ _ sx sy px py _ _ _ _ (bc_longer _ _ _ _ _ lo hi axes.0 i s l h) (bc_longer _ _ _ _ _ lo hi axes.1 j s l h))
          (segment_over _ _ sx sy px py _ _ _ _ (ca_longer _ _ _ _ _ lo hi axes.0 i s l h) (ca_longer _ _ _ _ _ lo hi axes.1 j s l h))

      roots_over : T (le (root_of (square_of x y)) (root_of (edge_square t px py)))
      unfolding square_of
      roots_over = roots_rise _ _ (add-fits binary64 _ _) (edge_fits t px py) (q_low _ _ sx sy) over

      away : lt r (apart_at t m s) ≡ true
      away = rw (apart_root t m s, square_is) (past r _ _ k.far roots_over)

  -- the whole
  nowhere_near : ((s : Float) → Unit s → lt r (apart_at t m s) ≡ true) → (n : ℕ) → stretch_of t m r n ≡ None
  unfolding stretch_of stretch_from near_of
  nowhere_near k n = rw (k _ (argmin_held (apart_at t m) f0 f1 n none_unit one_unit))

  in-quarters : Quarters t m r ex ey → (s : Float) → Unit s → lt r (apart_at t m s) ≡ true
  unfolding of_bits
  in-quarters k s u =
      let f = unit_finite s u in
      by_test (lt s quarter)
      (λ a. away f0 quarter k.one s u.low (lt_le s quarter a))
      (λ a. by_test (lt s half)
      (λ b. away quarter half k.two s (not_below_lem s quarter f tt a) (lt_le s half b))
      (λ b. by_test (lt s three_quarters)
      (λ c. away half three_quarters k.three s (not_below_lem s half f tt b) (lt_le s three_quarters c))
      (λ c. away three_quarters f1 k.four s (not_below_lem s three_quarters f tt c) u.high)))

  -- as the code has it
  module _ (x y : Range) (i : x ≡ ex) (j : y ≡ ey) where
    pub never : Off t m r x y f0 f1 → (n : ℕ) → stretch_of t m r n ≡ None
    unfolding of_bits
    never k = nowhere_near (λ s u. away f0 f1 (rw (i, j) at k) s u.low u.high)

    pub never_in_quarters : Quarters t m r x y → (n : ℕ) → stretch_of t m r n ≡ None
    never_in_quarters k = nowhere_near (in-quarters (rw (i, j) at k))

  pub keeps_off : (x y : Range) (lo hi : Float) (v w : Side) → v ≡ side_of x m.ax m.bx lo hi → w ≡ side_of y m.ay m.by lo hi
      → lt r (root_of (square_of v w)) ≡ true → Clear t m lo hi v w → Off t m r x y lo hi
  keeps_off x y lo hi v w i j far k = record { far = rw (i, j) at far; clear = rw (i, j) at k }
