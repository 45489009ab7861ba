-- Where the square of a distance is at most that of the flat part's radius, the profile is 0.
use mathlib.Core.Bool.{true}
use mathlib.Core.Path.{◌≡◌}
use Prim.Native.Nat.{◌+◌, ◌*◌}
use native.Mathlib.Nat.{mul-pos, mul-one, zero-mul}
use native.Mathlib.Omega.{arith}
use lib.Dec.{T}
use lib.Ieee.{Float, binary64, lt, le, eq, of_bits}
use lib.Ieee.Scale.{finite}
use lib.Ieee.Positive.{den, den_pos}
use lib.Ieee.Bits.{is_true}
use Rattle.numbers.specs.Reals.{◌⊕◌, ◌⊖◌, ◌⊗◌, f0, minus1, min_of, f0_is}
use Rattle.roots.specs.Hypot.{hypot_of}
use Rattle.plane.specs.Ranges.{is_radius}
use Rattle.order.proofs.Signed.{upper, lower, is_le, is_sub}
use Rattle.order.proofs.Ranges.{finite_between, sub_mono, zero_is}
use Rattle.order.proofs.Extremes.{min_either, min_under}
use Rattle.order.proofs.Order.{O, le_trans}
use Rattle.bound.proofs.Small.{small_up, small_finite, small_radius}
use Rattle.bound.specs.Inside.{Within}
use Rattle.bound.proofs.Near.{near_none}
use Rattle.bull.specs.declared.Bull.{Bull}
use Rattle.bull.specs.declared.Way.{Way}
use Rattle.bull.specs.Bull.{bull_profile}
use Rattle.bull.specs.Inside.{way_at, FlatTo}

self_high : (a : Float) → T (finite a) → T (le (a ⊖ a) O)
self_high a p =
    is_le binary64 _ _ _ _ _ _ _ _ (mul-pos (den_pos a) (den_pos a)) (omega arith)
    (omega (arith, zero-mul (den a * den a), mul-one (upper a * den a + lower a * den a)))
    (is_sub binary64 a a p p) zero_is

module _ (r w flat : Float) (a : is_radius r ≡ true) (b : is_radius w ≡ true) (n : Within w flat) (x y : Float) (h : le (x ⊗ x ⊕ y ⊗ y) flat ≡ true) where
  fw : T (finite w)
  fw = let c = small_radius w b in small_finite w (small_up w c.0 c.1)

  fr : T (finite r)
  fr = let c = small_radius r a in small_finite r (small_up r c.0 c.1)

  near : T (le (min_of (hypot_of x y) r) w)
  near = min_under (hypot_of x y) r w (n.near x y h)

  fm : T (finite (min_of (hypot_of x y) r))
  fm = min_either (λ v. T (finite v)) (hypot_of x y) r (finite_between O (hypot_of x y) w tt fw (rw f0_is at (n.low x y h)) (n.near x y h)) fr

  within : T (le (min_of (hypot_of x y) r ⊖ w) O)
  within = le_trans (min_of (hypot_of x y) r ⊖ w) (w ⊖ w) O (sub_mono binary64 (min_of (hypot_of x y) r) w w fm fw fw near) (self_high w fw)

none : (x y : Float) → le (x ⊗ x ⊕ y ⊗ y) minus1 ≡ true → ⊥
unfolding of_bits le lt eq
none x y h = let n = near_none minus1 in absurd (le_trans f0 (hypot_of x y) minus1 (n.low x y h) (n.near x y h))

module _ (k : Bull) where
  pub flat_part : (flat : Float) → is_radius k.r ≡ true → is_radius (k.r ⊖ k.rc) ≡ true → Within (k.r ⊖ k.rc) flat → FlatTo k flat
  unfolding of_bits
  flat_part flat a b n = record { near = λ x y h. is_true _ (within k.r (k.r ⊖ k.rc) flat a b n x y h) }

  -- and where the cutter's radius is none, as no square is below 0
  pub flat_none : FlatTo k minus1
  flat_none = record { near = λ x y h. absurd (none x y h) }

  pub flat_at : (w : Way) (flat t : Float) → FlatTo k flat
      → le ((w.ax ⊕ t ⊗ w.ex ⊖ k.x) ⊗ (w.ax ⊕ t ⊗ w.ex ⊖ k.x) ⊕ (w.ay ⊕ t ⊗ w.ey ⊖ k.y) ⊗ (w.ay ⊕ t ⊗ w.ey ⊖ k.y)) flat ≡ true
      → w.az ⊕ t ⊗ w.ez ⊖ f0 ≡ way_at k w t
  unfolding way_at bull_profile
  flat_at w flat t f h = rw (f.near (w.ax ⊕ t ⊗ w.ex ⊖ k.x) (w.ay ⊕ t ⊗ w.ey ⊖ k.y) h)
