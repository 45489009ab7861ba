-- The eps of a mesh of coordinates: above 0 and at most 2e-6.
use Rattle.std.proofs.Common.{◌≡◌, ℕ, zero, suc, ◌+◌, ◌*◌, ◌<◌, ◌≤◌, true, false, T, List, length, pos, negsuc, refl, subst, mul-pos, zero-mul, mul-one, arith, ltb→lt}
use lib.Ieee.{Float, nan, inf, fin, binary64, up, down, mul, round, lt, le}
use lib.Ieee.Fits.{up_pos}
use lib.Ieee.Positive.{positive, positive-finite, between, mul_mono}
use lib.Ieee.Scale.{finite}
use lib.Ieee.Bits.{is_true}
use Rattle.numbers.specs.Reals.{◌⊗◌, f0, f1, million, two_millionths, num, max_of, abs_of, million_is, f1_is, f0_is, slack_is, two_millionths_is}
use Rattle.plane.specs.Mesh.{triangle_of}
use Rattle.plane.specs.Ranges.{is_coordinate}
use Rattle.spans.specs.Mesh.{farther, farthest_of, scale_of, eps_of}
use Rattle.order.proofs.Signed.{parts→lt}
use Rattle.plane.proofs.Ranges.{absolute_finite}
use Rattle.order.proofs.Ranges.{le_trans_finite}
use Rattle.order.proofs.Extremes.{either_of, max_least, above_finite}

-- 1e6, 1e-12
abbrev largest : Float
largest = fin false 15625 (pos 6)

abbrev slight : Float
slight = fin false 4951760157141521 (negsuc 91)

positive_lt : (x : Float) → T (positive x) → T (lt (fin false 0 (pos 0)) x)
positive_lt nan p = absurd p
positive_lt (inf s) p = absurd p
positive_lt (fin true m e) p = absurd p
positive_lt (fin false m e) p =
    parts→lt (fin false 0 (pos 0)) (fin false m e) tt tt (omega (arith, zero-mul (down e), mul-pos (ltb→lt 0 m p) (up_pos e), mul-one (m * up e)))

-- finite and not above 1e6
abbrev Small : Float → Type 0
Small v = T (finite v) × T (le v largest)

small_zero : Small f0
small_zero = rw f0_is (tt, unfold le in tt)

small_one : Small f1
small_one = rw f1_is (tt, unfold le in tt)

small_size : (x : Float) → is_coordinate x ≡ true → Small (abs_of x)
unfolding is_coordinate
small_size x e =
    let g : T (le (abs_of x) million) = rw e tt in
    let h = rw million_is at g in
    (absolute_finite x h, h)

small_corner : (m x y z : Float) → Small m → is_coordinate x ≡ true → is_coordinate y ≡ true → is_coordinate z ≡ true → Small (farther m x y z)
unfolding farther
small_corner m x y z s a b c = either_of Small _ _ (either_of Small _ _ (either_of Small m _ s (small_size x a)) (small_size y b)) (small_size z c)

module _ (mesh : List Float) (good : (k : ℕ) → k < length mesh → is_coordinate (num mesh k) ≡ true) where
  small_triangle : (i : ℕ) → i * 9 + 9 ≤ length mesh → Small (farthest_of (triangle_of mesh i))
  unfolding farthest_of triangle_of
  small_triangle i h =
      small_corner _ _ _ _
      (small_corner _ _ _ _ (small_corner f0 _ _ _ small_zero (good _ (omega arith)) (good _ (omega arith)) (good _ (omega arith))) (good _ (omega arith))
      (good _ (omega arith)) (good _ (omega arith)))
      (good _ (omega arith)) (good _ (omega arith)) (good _ (omega arith))

  small_scale : (n : ℕ) → n * 9 ≤ length mesh → Small (scale_of mesh n)
  unfolding scale_of
  small_scale zero h = small_one
  small_scale (suc n) h = either_of Small _ _ (small_scale n (omega arith)) (small_triangle n (omega arith))

  module _ (n : ℕ) (nine : n * 9 ≤ length mesh) where
    scale : Float
    scale = max_of (scale_of mesh n) f1

    scale_high : Small scale
    unfolding scale
    scale_high = either_of Small _ f1 (small_scale n nine) small_one

    scale_low : T (le (fin false 1 (pos 0)) scale)
    unfolding scale
    scale_low = subst (λ (v : Float). T (le v (max_of (scale_of mesh n) f1))) f1_is (max_least (scale_of mesh n) f1 (small_scale n nine).0 small_one.0)

    scale_positive : T (positive scale)
    scale_positive = above_finite (fin false 1 (pos 0)) scale tt scale_low scale_high.0

    above_slack : T (le (slight ⊗ fin false 1 (pos 0)) (slight ⊗ scale))
    above_slack = mul_mono binary64 slight slight (fin false 1 (pos 0)) scale tt tt tt scale_positive (unfold le in tt) scale_low

    under_bound : T (le (slight ⊗ scale) (slight ⊗ largest))
    under_bound = mul_mono binary64 slight slight scale largest tt tt scale_positive tt (unfold le in tt) scale_high.1

    eps_low : T (positive (slight ⊗ scale))
    eps_low =
        let a : slight ⊗ fin false 1 (pos 0) ≡ slight = unfold mul round in refl in
        between slight _ (slight ⊗ largest) tt (unfold mul round in tt) (rw a at above_slack) under_bound

    eps_high : T (le (slight ⊗ scale) (fin false 4722366482869645 (negsuc 70)))
    eps_high = le_trans_finite (slight ⊗ scale) (slight ⊗ largest) (fin false 4722366482869645 (negsuc 70)) (positive-finite (slight ⊗ scale) eps_low)
        (unfold mul round in tt) tt under_bound (unfold mul round le in tt)

    pub eps_above : lt f0 (eps_of mesh n) ≡ true
    unfolding eps_of scale
    eps_above = rw (f0_is, slack_is) (is_true _ (positive_lt _ eps_low))

    pub eps_under : le (eps_of mesh n) two_millionths ≡ true
    unfolding eps_of scale
    eps_under = rw (two_millionths_is, slack_is) (is_true _ eps_high)
