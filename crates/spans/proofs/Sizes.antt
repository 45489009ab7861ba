-- The size of a cell lies from 1e-6 to 2e6, so a coordinate's cell is at most number 2e12, and larger coordinates lie in no lower cell.
use Rattle.std.proofs.Common.{◌≡◌, ℕ, ◌*◌, ◌<◌, ◌≤◌, false, T, pos, negsuc, refl, subst, mul-le-mul_right, mul-pos, zero-mul, mul-one, arith}
use lib.Ieee.{Float, fin, binary64, div, le, to_unsigned, of_int, fits, size, units, odd, round}
use lib.Ieee.Fits.{of_int-fits}
use lib.Ieee.Order.{round_mono}
use lib.Ieee.Scale.{finite}
use lib.Ieee.Positive.{num, den, den_pos, positive, between, le→cross}
use Rattle.order.proofs.Extremes.{above_finite, either_of, max_least}
use Rattle.numbers.specs.Reals.{◌⊖◌, ◌⊘◌, million, millionth, f1, f4, max_of, millionth_is, million_is, f0_is, f1_is, f4_is}
use Rattle.roots.specs.Root.{root_of, root_of_units, nearest_root, whole_root}
use Rattle.roots.proofs.Monotone.{root_mono}
use Rattle.spans.specs.Axis.{span_of, size_of, cell_at}
use Rattle.numbers.specs.Rounding.{truncated}
use Rattle.spans.specs.declared.Extent.{Extent}
use Rattle.order.proofs.Signed.{upper, lower, le→parts, is_le, is_div}
use Rattle.plane.proofs.Ranges.{Coordinate, coordinate_finite, two, extent_high, extent_finite, extent_positive, Radius, radius_finite}
use Rattle.order.proofs.Ranges.{zero_is, finite_between, le_trans_finite, num_pos, sub_mono, div_up, div_both, cut_up}

-- 1e-6
abbrev tiny : Float
tiny = fin false 4722366482869645 (negsuc 71)

-- 1e-6 <= s <= 2e6
pub record Size (s : Float) : Type 0 where
  pub least : T (le millionth s)
  pub most : T (le s two)

size_positive : (s : Float) → Size s → T (positive s)
size_positive s z = between tiny s two tt tt (rw millionth_is at z.least) z.most

-- not negative over positive is not negative
div_positive : (v s : Float) → T (finite v) → T (positive s) → T (le (fin false 0 (pos 0)) v) → T (le (fin false 0 (pos 0)) (v ⊘ s))
div_positive v s f q h =
    let l : lower v ≤ upper v = omega (arith, le→parts (fin false 0 (pos 0)) v tt f h, zero-mul (den v)) in
    is_le binary64 _ _ _ _ _ _ _ _ (omega arith) (mul-pos (num_pos s q) (den_pos v))
    (omega (arith, mul-le-mul_right {m = lower v} {n = upper v} (den s) l, zero-mul (num s * den v)))
    zero_is (is_div binary64 v s f q)

module _ (lo x s : Float) (cl : Coordinate lo) (cx : Coordinate x) (z : Size s) where
  pub quotient_high : T (le ((x ⊖ lo) ⊘ s) (two ⊘ tiny))
  quotient_high =
      div_both binary64 (x ⊖ lo) two s tiny (extent_finite x lo cx cl) tt (size_positive s z) tt refl (extent_high x lo cx cl)
      (le→cross tiny s tt (size_positive s z) (rw millionth_is at z.least))

  pub quotient_low : T (le lo x) → T (le (fin false 0 (pos 0)) ((x ⊖ lo) ⊘ s))
  quotient_low h = div_positive (x ⊖ lo) s (extent_finite x lo cx cl) (size_positive s z) (extent_positive x lo cx cl h)

  pub quotient_finite : T (le lo x) → T (finite ((x ⊖ lo) ⊘ s))
  quotient_finite h = finite_between (fin false 0 (pos 0)) ((x ⊖ lo) ⊘ s) (two ⊘ tiny) tt (unfold div round in tt) (quotient_low h) quotient_high

  pub cells_few : T (le lo x) → cell_at lo s x ≤ 2000000000000
  unfolding cell_at
  cells_few h =
      let e : truncated (two ⊘ tiny) ≡ 2000000000000 = unfold div round to_unsigned in refl in
      rw e at (cut_up 64 ((x ⊖ lo) ⊘ s) (two ⊘ tiny) (quotient_finite h) (unfold div round in tt) quotient_high)

pub cells_mono : (lo x y s : Float) → Coordinate lo → Coordinate x → Coordinate y → Size s → T (le lo x) → T (le x y) → cell_at lo s x ≤ cell_at lo s y
unfolding cell_at
cells_mono lo x y s cl cx cy z h k =
    let fl = coordinate_finite lo cl in
    let fx = coordinate_finite x cx in
    let fy = coordinate_finite y cy in
    cut_up 64 _ _ (quotient_finite lo x s cl cx z h) (quotient_finite lo y s cl cy z (le_trans_finite lo x y fl fx fy h k))
    (div_up binary64 (x ⊖ lo) (y ⊖ lo) s (extent_finite x lo cx cl) (extent_finite y lo cy cl) (size_positive s z) (sub_mono binary64 x y lo fx fy fl k))

million_under : (r : Float) → T (finite r) → T (le r million) → T (le r two)
million_under r p h = le_trans_finite r (fin false 15625 (pos 6)) two p tt tt (rw million_is at h) (unfold le in tt)

-- dividing by 1 or more does not enlarge
div_shrinks : (x s : Float) → T (finite x) → T (positive s) → T (le x two) → 1 * den s ≤ num s → T (le (x ⊘ s) two)
div_shrinks x s p q h k =
    let e : two ⊘ fin false 1 (pos 0) ≡ two = unfold div round in refl in
    rw e at (div_both binary64 x two s (fin false 1 (pos 0)) p tt q tt refl h (omega (arith, k, mul-one (num s))))

-- ---- the root of a number of triangles
module _ (n : ℕ) (some : 0 < n) (few : n ≤ 65536) where
  count_low : T (le (fin false 1 (pos 0)) (of_int binary64 (pos n)))
  unfolding of_int
  count_low = let e : round binary64 false 1 1 ≡ fin false 1 (pos 0) = unfold round in refl in
      rw e at (round_mono binary64 1 1 n 1 (omega arith) (omega arith) (omega arith))

  count_high : T (le (of_int binary64 (pos n)) (fin false 1 (pos 16)))
  unfolding of_int
  count_high = let e : round binary64 false 65536 1 ≡ fin false 1 (pos 16) = unfold round in refl in
      rw e at (round_mono binary64 n 1 65536 1 (omega arith) (omega arith) (omega arith))

  count_positive : T (positive (of_int binary64 (pos n)))
  count_positive = between (fin false 1 (pos 0)) _ (fin false 1 (pos 16)) tt tt count_low count_high

  root_low : T (le (root_of (fin false 1 (pos 0))) (root_of (of_int binary64 (pos n))))
  root_low = root_mono _ _ (unfold fits in tt) (of_int-fits binary64 (pos n)) tt count_positive count_low

  root_high : T (le (root_of (of_int binary64 (pos n))) (root_of (fin false 1 (pos 16))))
  root_high = root_mono _ _ (of_int-fits binary64 (pos n)) (unfold fits in tt) count_positive tt count_high

  root_finite : T (finite (root_of (of_int binary64 (pos n))))
  root_finite =
      let p : root_of (fin false 1 (pos 0)) ≡ fin false 1 (pos 0) = unfold root_of root_of_units nearest_root whole_root size units odd in refl in
      let q : root_of (fin false 1 (pos 16)) ≡ fin false 1 (pos 8) = unfold root_of root_of_units nearest_root whole_root size units odd in refl in
      finite_between (fin false 1 (pos 0)) _ (fin false 1 (pos 8)) tt tt (rw p at root_low) (rw q at root_high)

module _ (e : Extent) (r : Float) (a : Coordinate e.left) (b : Coordinate e.right) (c : Coordinate e.bottom)
    (d : Coordinate e.top) (z : Radius r) where
  span_high : T (le (span_of e r) two)
  unfolding span_of
  span_high =
      either_of (λ v. T (le v two)) _ r (either_of (λ v. T (le v two)) _ _ (extent_high e.right e.left b a) (extent_high e.top e.bottom d c))
      (million_under r (radius_finite r z) z.high)

  span_finite : T (finite (span_of e r))
  unfolding span_of
  span_finite = either_of (λ v. T (finite v)) _ r
      (either_of (λ v. T (finite v)) _ _ (extent_finite e.right e.left b a) (extent_finite e.top e.bottom d c)) (radius_finite r z)

  span_low : T (le (fin false 0 (pos 0)) (span_of e r))
  unfolding span_of
  span_low =
      let f = radius_finite r z in
      le_trans_finite (fin false 0 (pos 0)) r _ tt f span_finite (rw f0_is at z.low)
      (max_least _ r (either_of (λ v. T (finite v)) _ _ (extent_finite e.right e.left b a) (extent_finite e.top e.bottom d c)) f)

  quarter_high : T (le (r ⊘ f4) two)
  quarter_high = rw f4_is (div_shrinks r (fin false 1 (pos 2)) (radius_finite r z) tt (million_under r (radius_finite r z) z.high) (omega arith))

  quarter_low : T (le (fin false 0 (pos 0)) (r ⊘ f4))
  quarter_low = rw f4_is (div_positive r (fin false 1 (pos 2)) (radius_finite r z) tt (rw f0_is at z.low))

  module _ (root : Float) (f : T (finite root)) where
    divisor_finite : T (finite (max_of root f1))
    divisor_finite = either_of (λ v. T (finite v)) root f1 f (rw f1_is tt)

    divisor_least : T (le (fin false 1 (pos 0)) (max_of root f1))
    divisor_least = subst (λ (v : Float). T (le v (max_of root f1))) f1_is (max_least root f1 f (rw f1_is tt))

    divisor_positive : T (positive (max_of root f1))
    divisor_positive = above_finite (fin false 1 (pos 0)) _ tt divisor_least divisor_finite

    share_high : T (le (span_of e r ⊘ max_of root f1) two)
    share_high =
        div_shrinks _ _ span_finite divisor_positive span_high
        (omega (arith, le→cross (fin false 1 (pos 0)) (max_of root f1) tt divisor_positive divisor_least, mul-one (num (max_of root f1))))

    share_low : T (le (fin false 0 (pos 0)) (span_of e r ⊘ max_of root f1))
    share_low = div_positive _ _ span_finite divisor_positive span_low

    inner_finite : T (finite (max_of (span_of e r ⊘ max_of root f1) (r ⊘ f4)))
    inner_finite =
        either_of (λ v. T (finite v)) _ _ (finite_between (fin false 0 (pos 0)) _ two tt tt share_low share_high)
        (finite_between (fin false 0 (pos 0)) _ two tt tt quarter_low quarter_high)

    larger_size : Size (max_of (max_of (span_of e r ⊘ max_of root f1) (r ⊘ f4)) millionth)
    larger_size =
        record {
          least = max_least _ millionth inner_finite (rw millionth_is tt);
          most = either_of (λ v. T (le v two)) _ millionth (either_of (λ v. T (le v two)) _ _ share_high quarter_high) (rw millionth_is (unfold le in tt));
        }

  pub size_range : (n : ℕ) → 0 < n → n ≤ 65536 → Size (size_of n (span_of e r) r)
  unfolding size_of
  size_range n h k = larger_size (root_of (of_int binary64 (pos n))) (root_finite n h k)
