-- Differences of coordinates stay within 2e6; a radius lies from 0 to 1e6.
use mathlib.Core.Bool.{Bool, true, false}
use mathlib.Core.Logic.{inl}
use mathlib.Core.Path.{◌≡◌, refl}
use Prim.Native.Nat.{ℕ, ◌+◌, ◌*◌, ◌≤◌}
use native.Mathlib.Nat.{zero-mul, mul-one, mul_comm, mul_assoc, add-mul, mul-pos, mul-le-mul_right}
use native.Mathlib.Omega.{arith}
use lib.Dec.{T}
use lib.IntN.{pos}
use lib.Ieee.{Float, nan, inf, fin, binary64, down, neg, le, of_bits, round}
use lib.Ieee.Scale.{finite}
use lib.Ieee.Positive.{den, den_pos}
use Rattle.rules.proofs.Branches.{both_true}
use Rattle.order.proofs.Ranges.{finite_between, zero_is}
use Rattle.numbers.specs.Reals.{◌⊖◌, million, abs_of, million_is, f0, f0_is}
use Rattle.plane.specs.Ranges.{is_coordinate, is_radius}
use Rattle.order.proofs.Signed.{upper, lower, le→parts, parts→le, Is, rounded, is_le, is_sub}

-- -1e6 <= x <= 1e6
pub record Coordinate (x : Float) : Type 0 where
  pub low : T (le (neg million) x)
  pub high : T (le x million)

-- 2e6 and -2e6, 0, 1e6
abbrev pub two : Float
two = fin false 15625 (pos 7)

abbrev pub minus_two : Float
minus_two = fin true 15625 (pos 7)

two_is : Is binary64 two 2000000 0 1
two_is = inl (unfold rounded round in refl)

minus_two_is : Is binary64 minus_two 0 2000000 1
minus_two_is = inl (unfold rounded round in refl)

minus_million_is : neg million ≡ fin true 15625 (pos 6)
unfolding of_bits neg
minus_million_is = refl

pub coordinate_finite : (x : Float) → Coordinate x → T (finite x)
coordinate_finite x c = finite_between (fin true 15625 (pos 6)) x (fin false 15625 (pos 6)) tt tt (rw minus_million_is at c.low) (rw million_is at c.high)

-- as a fraction
coordinate_parts : (x : Float) → Coordinate x → (upper x ≤ 1000000 * den x + lower x) × (lower x ≤ 1000000 * den x + upper x)
coordinate_parts x c =
    let f = coordinate_finite x c in
    let a = le→parts x (fin false 15625 (pos 6)) f tt (rw million_is at c.high) in
    let b = le→parts (fin true 15625 (pos 6)) x tt f (rw minus_million_is at c.low) in
    omega (arith, a, b, mul-one (upper x), mul-one (lower x), zero-mul (den x))

wide : (ux lx dx uy ly dy : ℕ) → ux ≤ 1000000 * dx + lx → ly ≤ 1000000 * dy + uy → ux * dy + ly * dx ≤ 2000000 * (dx * dy) + (uy * dx + lx * dy)
wide ux lx dx uy ly dy a b =
    omega (
      arith,
      mul-le-mul_right dy a,
      add-mul (1000000 * dx) lx dy,
      mul_assoc 1000000 dx dy,
      mul-le-mul_right dx b,
      add-mul (1000000 * dy) uy dx,
      mul_assoc 1000000 dy dx,
      mul_comm dy dx,
    )

-- the difference of two coordinates
module _ (x y : Float) (cx : Coordinate x) (cy : Coordinate y) where
  difference : Is binary64 (x ⊖ y) (upper x * den y + lower y * den x) (upper y * den x + lower x * den y) (den x * den y)
  difference = is_sub binary64 x y (coordinate_finite x cx) (coordinate_finite y cy)

  pub extent_high : T (le (x ⊖ y) two)
  extent_high =
      is_le binary64 _ _ _ _ _ _ _ _ (mul-pos (den_pos x) (den_pos y)) (omega arith)
      (omega (
        arith,
        wide (upper x) (lower x) (den x) (upper y) (lower y) (den y) (coordinate_parts x cx).0 (coordinate_parts y cy).1,
        zero-mul (den x * den y),
      ))
      difference two_is

  pub extent_low : T (le minus_two (x ⊖ y))
  extent_low =
      is_le binary64 _ _ _ _ _ _ _ _ (omega arith) (mul-pos (den_pos x) (den_pos y))
      (omega (
        arith,
        wide (lower x) (upper x) (den x) (lower y) (upper y) (den y) (coordinate_parts x cx).1 (coordinate_parts y cy).0,
        zero-mul (den x * den y),
      ))
      minus_two_is difference

  pub extent_finite : T (finite (x ⊖ y))
  extent_finite = finite_between (fin true 15625 (pos 7)) (x ⊖ y) (fin false 15625 (pos 7)) tt tt extent_low extent_high

  pub extent_positive : T (le y x) → T (le (fin false 0 (pos 0)) (x ⊖ y))
  extent_positive h =
      is_le binary64 _ _ _ _ _ _ _ _ (omega arith) (mul-pos (den_pos x) (den_pos y))
      (omega (arith, le→parts y x (coordinate_finite y cy) (coordinate_finite x cx) h, zero-mul (den x * den y)))
      zero_is difference

-- ---- a coordinate by its test
absolute : (x : Float) → T (finite (abs_of x)) → T (le (abs_of x) (fin false 15625 (pos 6)))
    → T (le (fin true 15625 (pos 6)) x) × T (le x (fin false 15625 (pos 6)))
unfolding abs_of
absolute nan p h = absurd p
absolute (inf s) p h = absurd p
absolute (fin s m e) p h =
    let a = le→parts (fin false m e) (fin false 15625 (pos 6)) tt tt h in
    by_sign s a
  where
    by_sign : (s : Bool) → upper (fin false m e) * den (fin false 15625 (pos 6)) + lower (fin false 15625 (pos 6)) * den (fin false m e) ≤ upper
        (fin false 15625 (pos 6)) * den (fin false m e) + lower (fin false m e) * den (fin false 15625 (pos 6))
        → T (le (fin true 15625 (pos 6)) (fin s m e)) × T (le (fin s m e) (fin false 15625 (pos 6)))
    by_sign false a = (
      parts→le (fin true 15625 (pos 6)) (fin false m e) tt tt (omega (arith, zero-mul (down e))),
      parts→le (fin false m e) (fin false 15625 (pos 6)) tt tt a,
    )
    by_sign true a = (
      parts→le (fin true 15625 (pos 6)) (fin true m e) tt tt (omega (arith, a, zero-mul (down e))),
      parts→le (fin true m e) (fin false 15625 (pos 6)) tt tt (omega (arith, zero-mul (down e))),
    )

pub absolute_finite : (x : Float) → T (le (abs_of x) (fin false 15625 (pos 6))) → T (finite (abs_of x))
unfolding abs_of le
absolute_finite nan h = h
absolute_finite (inf s) h = h
absolute_finite (fin s m e) h = tt

pub coordinate : (x : Float) → is_coordinate x ≡ true → Coordinate x
unfolding is_coordinate
coordinate x e =
    let g : T (le (abs_of x) million) = rw e tt in
    let h = rw million_is at g in
    let a = absolute x (absolute_finite x h) h in
    record { low = rw minus_million_is a.0; high = rw million_is a.1 }

-- 0 <= r <= 1e6
pub record Radius (r : Float) : Type 0 where
  pub low : T (le f0 r)
  pub high : T (le r million)

pub radius : (r : Float) → is_radius r ≡ true → Radius r
unfolding is_radius
radius r e = let b = both_true (le f0 r) (le r million) e in record { low = rw b.0 tt; high = rw b.1 tt }

pub radius_finite : (r : Float) → Radius r → T (finite r)
radius_finite r z = finite_between (fin false 0 (pos 0)) r (fin false 15625 (pos 6)) tt tt (rw f0_is at z.low) (rw million_is at z.high)
