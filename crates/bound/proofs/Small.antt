-- Numbers of at most 1e6 in size: their squares, and sums of two of these, are finite and not below 0.
use mathlib.Core.Bool.{true, false}
use mathlib.Core.Path.{◌≡◌, refl}
use Prim.Native.Nat.{◌≤◌}
use native.Mathlib.Omega.{arith}
use lib.Dec.{T}
use lib.IntN.{pos}
use lib.Ieee.{Float, fin, binary64, size, odd, units, sum, round, add, mul, neg, lt, le, is_nan, of_bits}
use lib.Ieee.Scale.{finite}
use Rattle.order.proofs.Whole.{sized, million_value, size_bounded, Bounded}
use Rattle.numbers.specs.Reals.{◌⊕◌, ◌⊖◌, ◌⊗◌, f0, million, min_of, max_of, million_is, f0_is}
use Rattle.roots.specs.Root.{root_of, root_of_units, nearest_root, whole_root}
use Rattle.roots.specs.Hypot.{infinite, count_of, even_root, hypot_of_count, hypot_of}
use Rattle.roots.proofs.Distances.{hypot_counts}
use Rattle.plane.specs.Ranges.{is_coordinate, is_radius}
use Rattle.order.proofs.Ranges.{finite_between}
use Rattle.plane.proofs.Ranges.{Coordinate, coordinate, two, minus_two, extent_finite, extent_high, extent_low, radius}
use Rattle.rules.proofs.Branches.{by_test, both_true}
use Rattle.order.proofs.Extremes.{either_of, le_self, not_below_lem, min_either, lt_le}
use Rattle.order.proofs.Order.{O, le_trans, add_left, add_right, square_up, square_down, no_lower}
use Rattle.order.proofs.Roots.{count_rises, count_falls, distance_low}
use Rattle.bound.proofs.Along.{Between}

-- 1e6 and -1e6
abbrev pub M : Float
M = fin false 15625 (pos 6)

abbrev pub M' : Float
M' = fin true 15625 (pos 6)

minus_million_is : neg million ≡ M'
unfolding of_bits neg
minus_million_is = refl

pub record Small (x : Float) : Type 0 where
  pub low : T (le M' x)
  pub high : T (le x M)

pub small : (x : Float) → is_coordinate x ≡ true → Small x
small x e = let c = coordinate x e in record { low = rw minus_million_is at c.low; high = rw million_is at c.high }

pub small_finite : (x : Float) → Small x → T (finite x)
small_finite x s = finite_between M' x M tt tt s.low s.high

pub small_up : (x : Float) → T (le O x) → T (le x M) → Small x
small_up x h k = record { low = le_trans M' O x (unfold le in tt) h; high = k }

pub small_radius : (r : Float) → is_radius r ≡ true → T (le O r) × T (le r M)
small_radius r e = let c = radius r e in (rw f0_is at c.low, rw million_is at c.high)

pub small_sub : (x y : Float) → Small x → Small y → T (finite (x ⊖ y))
small_sub x y s t =
    extent_finite x y (record { low = rw minus_million_is s.low; high = rw million_is s.high })
    (record { low = rw minus_million_is t.low; high = rw million_is t.high })

pub small_range : (x y : Float) → Small x → Small y → T (le minus_two (x ⊖ y)) × T (le (x ⊖ y) two)
small_range x y s t =
    let a : Coordinate x = record { low = rw minus_million_is s.low; high = rw million_is s.high } in
    let b : Coordinate y = record { low = rw minus_million_is t.low; high = rw million_is t.high } in
    (extent_low x y a b, extent_high x y a b)

pub small_between : (p q s : Float) → Small p → Small q → Between p q s → Small s
small_between p q s a b h =
    record {
      low = le_trans M' (min_of p q) s (min_either (λ v. T (le M' v)) p q a.low b.low) h.low;
      high =
          le_trans s (max_of p q) M h.high (either_of (λ v. T (le v M)) p q a.high b.high);
    }

-- ---- squares
pub zero_square : O ⊗ O ≡ O
unfolding mul round
zero_square = refl

pub square_nonneg : (s : Float) → T (finite s) → T (le O (s ⊗ s))
square_nonneg s p =
    rw zero_square at
    (by_test {A = T (le (O ⊗ O) (s ⊗ s))} (lt s O)
    (λ l. square_down O s tt p (le_self O tt) (lt_le s O l))
    (λ l. square_up O s tt p (le_self O tt) (not_below_lem s O p tt l)))

minus_square : M' ⊗ M' ≡ M ⊗ M
unfolding mul
minus_square = refl

pub square_small : (s : Float) → Small s → T (le (s ⊗ s) (M ⊗ M))
square_small s h =
    let p = small_finite s h in
    by_test (lt s O)
    (λ l. rw minus_square at (square_down s M' p tt (lt_le s O l) h.low))
    (λ l. square_up s M p tt (not_below_lem s O p tt l) h.high)

pub square_limit : T (finite (M ⊗ M))
unfolding mul round
square_limit = tt

pub square_finite : (s : Float) → Small s → T (finite (s ⊗ s))
square_finite s h = finite_between O (s ⊗ s) (M ⊗ M) tt square_limit (square_nonneg s (small_finite s h)) (square_small s h)

-- ---- sums
zero_sum : O ⊕ O ≡ O
unfolding add sum round
zero_sum = refl

pub sum_nonneg : (x y : Float) → T (finite x) → T (finite y) → T (le O x) → T (le O y) → T (le O (x ⊕ y))
sum_nonneg x y p q h k =
    le_trans O (O ⊕ y) (x ⊕ y) (rw zero_sum at (add_right binary64 O y O tt q tt k)) (add_left binary64 O x y tt p q h)

sum_limit : T (finite (M ⊗ M ⊕ M ⊗ M))
unfolding mul add sum round
sum_limit = tt

pub sum_finite : (s t : Float) → Small s → Small t → T (finite (s ⊗ s ⊕ t ⊗ t))
sum_finite s t a b =
    let p = square_finite s a in
    let q = square_finite t b in
    finite_between O (s ⊗ s ⊕ t ⊗ t) (M ⊗ M ⊕ M ⊗ M) tt sum_limit
    (sum_nonneg (s ⊗ s) (t ⊗ t) p q (square_nonneg s (small_finite s a)) (square_nonneg t (small_finite t b)))
    (le_trans (s ⊗ s ⊕ t ⊗ t) (M ⊗ M ⊕ t ⊗ t) (M ⊗ M ⊕ M ⊗ M)
    (add_left binary64 (s ⊗ s) (M ⊗ M) (t ⊗ t) p square_limit q (square_small s a))
    (add_right binary64 (t ⊗ t) (M ⊗ M) (M ⊗ M) q square_limit square_limit (square_small t b)))

-- ---- the root of 1e12
pub root_limit : T (le (root_of (M ⊗ M)) M)
unfolding mul round root_of root_of_units nearest_root whole_root le
root_limit = tt

-- ---- distances
small_count : (x : Float) → Small x → count_of x ≤ count_of M
small_count x s =
    let p = small_finite x s in
    by_test (lt x O)
    (λ l. rw same_count at (count_falls M' x tt p (lt_le x O l) s.low))
    (λ l. count_rises x M p tt (not_below_lem x O p tt l) s.high)
  where
    same_count : count_of M' ≡ count_of M
    same_count = unfold count_of in refl

distance_limit : T (finite (hypot_of M M))
unfolding hypot_of infinite is_nan count_of hypot_of_count even_root whole_root size units odd
distance_limit = tt

pub small_distance : (x y : Float) → Small x → Small y → T (le O (hypot_of x y)) × T (finite (hypot_of x y))
small_distance x y s t =
    let p = small_finite x s in
    let q = small_finite y t in
    let l = distance_low x y p q in
    (l, finite_between O (hypot_of x y) (hypot_of M M) tt distance_limit l (hypot_counts x y M M p q tt tt (small_count x s) (small_count y t)))

-- ---- between whole numbers
pub coordinate_bounded : (x : Float) → is_coordinate x ≡ true → Bounded 1000000 x
unfolding is_coordinate
coordinate_bounded x e = size_bounded x million 1000000 million_value e

pub radius_bounded : (r : Float) → is_radius r ≡ true → Bounded 1000000 r
unfolding is_radius
radius_bounded r e =
    let c = small_radius r e in
    let f = finite_between O r M tt tt c.0 c.1 in
    let z = no_lower r f c.0 in
    let h = sized r million 1000000 f z million_value (rw (both_true (le f0 r) (le r million) e).1 tt) in
    record { fine = f; above = omega (arith, h); below = omega (arith, z) }
