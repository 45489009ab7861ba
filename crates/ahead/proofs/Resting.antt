-- Where a cutter rests on a plane it lies over its tip, or its height there is no number.
use mathlib.Core.Bool.{Bool, true, false}
use mathlib.Core.Logic.{inl, inr}
use mathlib.Core.Path.{◌≡◌, refl}
use Prim.Native.Nat.{ℕ, ◌+◌, ◌*◌, ◌≤◌}
use native.Mathlib.Nat.{mul-one, one-mul, mul_comm, mul_assoc, mul_left_comm, zero-mul, mul-zero, mul-pos, mul-le-mul_right}
use native.Mathlib.Omega.{arith}
use lib.Dec.{T}
use lib.IntN.{pos}
use lib.Ieee.{Float, nan, inf, fin, binary64, add, mul, div, neg, sum, round, lt, le, eq, fits, is_nan, of_bits}
use lib.Ieee.Fits.{add-fits}
use lib.Ieee.Positive.{den, den_pos, num, positive}
use lib.Ieee.Scale.{finite}
use Rattle.numbers.specs.Reals.{◌⊕◌, ◌⊖◌, ◌⊗◌, ◌⊘◌, f0, f1, no_slope, million_is}
use Rattle.roots.specs.Root.{root_of, root_of_units, nearest_root, whole_root}
use Rattle.rules.proofs.Branches.{either}
use Rattle.cutters.specs.declared.Gradient.{Gradient}
use Rattle.cutters.specs.declared.Rest.{Rest}
use Rattle.cutters.specs.Touch.{rest_of}
use Rattle.order.proofs.Signed.{upper, lower, le→parts, is_le, is_div}
use Rattle.plane.proofs.Ranges.{Coordinate, extent_finite, extent_positive}
use Rattle.order.proofs.Ranges.{finite_between, num_pos, zero_is}
use Rattle.order.proofs.Extremes.{above_finite, le_self}
use Rattle.order.proofs.Order.{O, le_trans, add_right, no_lower, own}
use Rattle.bound.proofs.Along.{add_parts}
use Rattle.order.proofs.Roots.{root_le}
use Rattle.bound.proofs.Small.{M, small_up, square_nonneg}
use Rattle.bull.specs.declared.Bull.{Bull}
use Rattle.bull.specs.Bull.{bull_sloped, bull_rest}
use Rattle.bull.specs.Inside.{base_of}
use Rattle.ahead.proofs.Lowered.{Dropped, less_nan, is_based}

abbrev I : Float
I = fin false 1 (pos 0)

-- ---- the root of 1 and a square is at least 1, if it is finite
root_part : (w : Float) → T (finite (root_of w)) → T (finite w)
unfolding root_of
root_part nan h = absurd h
root_part (inf true) h = absurd h
root_part (inf false) h = absurd h
root_part (fin s m e) h = tt

square_part : (s : Float) → T (finite (s ⊗ s)) → T (finite s)
unfolding mul
square_part nan h = absurd h
square_part (inf s) h = absurd h
square_part (fin s m e) h = tt

one_least : T (le I (f1 ⊕ O))
unfolding of_bits add sum round le lt eq
one_least = tt

one_root : T (le I (root_of I))
unfolding root_of root_of_units nearest_root whole_root lib.Ieee.units lib.Ieee.size le
one_root = tt

root_up : (s : Float) → T (finite (root_of (f1 ⊕ s ⊗ s))) → T (le I (root_of (f1 ⊕ s ⊗ s)))
root_up s h =
    let w = f1 ⊕ s ⊗ s in
    let fw = root_part w h in
    let p = add_parts f1 (s ⊗ s) fw in
    let l = square_nonneg s (square_part s p.1) in
    let o = le_trans I (f1 ⊕ O) w one_least (add_right binary64 O (s ⊗ s) f1 tt p.1 p.0 l) in
    le_trans I (root_of I) (root_of w) one_root (root_le I w (unfold fits in tt) (add-fits binary64 f1 (s ⊗ s)) tt fw (unfold le lt eq in tt) o)

-- ---- rc less rc over that
zero_low : (b : Bool) → T (le (fin b 0 (pos 0)) O) × T (le O (fin b 0 (pos 0)))
unfolding le lt eq
zero_low true = (tt, tt)
zero_low false = (tt, tt)

module _ (c : Float) (low : T (le O c)) (high : T (le c M)) (fit : T (fits binary64 c)) where
  fc : T (finite c)
  fc = finite_between O c M tt tt low high

  coordinate_of : (v : Float) → T (le O v) → T (le v c) → Coordinate v
  coordinate_of v a b =
      let s = small_up v a (le_trans v c M b high) in
      record { low = unfold of_bits neg in s.low; high = rw million_is s.high }

  over_nan : (x : Float) → is_nan (x ⊘ nan) ≡ true
  unfolding div is_nan
  over_nan nan = refl
  over_nan (inf s) = refl
  over_nan (fin s m e) = refl

  record Part (v : Float) : Type 0 where
    least : T (le O v)
    most : T (le v c)

  over_inf : (x : Float) (t : Bool) → T (finite x) → Part (x ⊘ inf t)
  unfolding div
  over_inf nan t f = absurd f
  over_inf (inf s) t f = absurd f
  over_inf (fin s m e) t f = record { least = (zero_low _).1; most = le_trans _ O c (zero_low _).0 low }

  over_more : (m : ℕ) (e : _) → T (le I (fin false m e)) → Part (c ⊘ fin false m e)
  over_more m e h =
      let q : Float = fin false m e in
      let d : T (positive q) = above_finite I q tt h tt in
      let z = no_lower c fc low in
      let k = le→parts I q tt tt h in
      record {
        least = is_le binary64 _ _ _ _ _ _ _ _ (omega arith) (mul-pos (num_pos q d) (den_pos c))
            (rw z (omega (arith, zero-mul (den q), zero-mul (num q * den c)))) zero_is (is_div binary64 c q fc d);
        most = is_le binary64 _ _ _ _ _ _ _ _ (mul-pos (num_pos q d) (den_pos c)) (den_pos c) (rw z (cross (upper c) (den c) (num q) (den q)
            (omega (arith, k, mul-one (upper q), mul-one (lower q), one-mul (den q), zero-mul (den q))))) (is_div binary64 c q fc d) (own c fit fc);
      }
    where
      cross : (u d n f : ℕ) → f ≤ n → u * f * d + 0 * (n * d) ≤ u * (n * d) + 0 * f * d
      cross u d n f l =
          simp (mul_assoc, mul_comm, mul_left_comm, zero-mul, mul-zero)
          (omega (arith, simp (mul_assoc, mul_comm, mul_left_comm) at (mul-le-mul_right (u * d) l)))

  part_dropped : (v : Float) → Part v → Dropped (c ⊖ v)
  part_dropped v p =
      let a = coordinate_of c low (le_self c fc) in
      let b = coordinate_of v p.least p.most in
      inr (extent_positive c v a b p.most, extent_finite c v a b)

  rooted : (q : Float) → (T (finite q) → T (le I q)) → Dropped (c ⊖ c ⊘ q)
  rooted nan h = inl (less_nan c (c ⊘ nan) (over_nan c))
  rooted (inf t) h = part_dropped (c ⊘ inf t) (over_inf c t fc)
  rooted (fin true m e) h = absurd (not_minus m e (h tt))
    where
      not_minus : (m : ℕ) (e : _) → T (le I (fin true m e)) → ⊥
      not_minus m e k = omega (arith, le→parts I (fin true m e) tt tt k, den_pos (fin true m e), mul-one (m), zero-mul 1)
  rooted (fin false m e) h = part_dropped (c ⊘ fin false m e) (over_more m e (h tt))

-- ---- where the cutter rests
none_dropped : Dropped f0
unfolding of_bits
none_dropped = inr (unfold le lt eq in tt, tt)

pub rest_drop : (k : Bull) → le f0 (base_of k) ≡ true → T (fits binary64 k.rc) → (g : Gradient) → Dropped (bull_rest k g).drop
unfolding bull_rest bull_sloped rest_of
rest_drop k level fit g =
    let v = is_based k level in
    either (λ (r : Rest). Dropped r.drop) (lt g.steep no_slope) _ _ (λ e. none_dropped)
    (λ e. rooted k.rc v.c₀ v.c₁ fit (root_of (f1 ⊕ g.steep ⊗ g.steep)) (root_up g.steep))
