-- An edge from lo to hi: its heights are at most the higher of the two at lo and hi, and its distances at least that of its box.
use mathlib.Core.Bool.{true}
use mathlib.Core.Path.{◌≡◌}
use Prim.Native.Nat.{◌≤◌}
use lib.Dec.{T}
use lib.Ieee.{Float, binary64, le, fits}
use lib.Ieee.Scale.{finite}
use Rattle.numbers.specs.Reals.{◌⊖◌, f0, f1, f0_is, f1_is}
use Rattle.roots.specs.Hypot.{count_of}
use Rattle.rules.proofs.Branches.{both_true, holds}
use Rattle.roots.proofs.Distances.{hypot_counts}
use Rattle.cutters.specs.declared.Edge.{Edge}
use Rattle.cutters.specs.Touch.{distance_at}
use Rattle.order.proofs.Ranges.{finite_between}
use Rattle.order.proofs.Extremes.{either_of}
use Rattle.order.proofs.Order.{O, le_trans}
use Rattle.order.proofs.Roots.{distance_low}
use Rattle.bound.proofs.Unit.{I, Unit, unit_finite}
use Rattle.bound.proofs.Along.{Between, at, sub_parts, along_on, side_on_lem, nearest_below, nearest_fine}
use Rattle.bound.proofs.Small.{Small, small, small_finite, small_between, small_distance}
use Rattle.caps.specs.Inside.{high_on, side_on, least_on, side_tame, in_order, tame_on}
use Rattle.caps.proofs.Bracket.{In}

-- ---- the places
pub record Ordered (lo hi : Float) : Type 0 where
  pub low : Unit lo
  pub high : Unit hi
  pub order : T (le lo hi)

pub ordered : (lo hi : Float) → T (fits binary64 lo) → T (fits binary64 hi) → in_order lo hi ≡ true → Ordered lo hi
unfolding in_order
ordered lo hi f g e =
    let a = both_true (le f0 lo) _ e in
    let b = both_true (le lo hi) _ a.1 in
    let l : T (le O lo) = rw f0_is at (holds (le f0 lo) a.0) in
    let h : T (le hi I) = rw f1_is at (holds (le hi f1) b.1) in
    let o = holds (le lo hi) b.0 in
    record {
      low = record { low = l; high = le_trans lo hi I o h; fit = f };
      high = record { low = le_trans O lo hi l o; high = h; fit = g };
      order = o;
    }

-- ---- one coordinate
module _ (a b x lo hi : Float) (o : Ordered lo hi) (e : side_tame a b x lo hi ≡ true) where
  ends : Small (at a b lo ⊖ x) × Small (at a b hi ⊖ x)
  unfolding side_tame
  ends = let t = both_true _ _ e in (small _ t.0, small _ t.1)

  module _ (t : Float) (i : In lo hi t) where
    place : Between (at a b lo ⊖ x) (at a b hi ⊖ x) (at a b t ⊖ x)
    place =
        side_on_lem a b x lo hi t (unit_finite lo o.low) (unit_finite hi o.high) (unit_finite t i.unit) i.low i.high (small_finite _ ends.0)
        (small_finite _ ends.1)

    there : Small (at a b t ⊖ x)
    there = small_between _ _ _ ends.0 ends.1 place

    nearer_side : count_of (side_on a b x lo hi) ≤ count_of (at a b t ⊖ x)
    unfolding side_on
    nearer_side = nearest_below _ _ (small_finite _ ends.0) (small_finite _ ends.1) _ place

  fine_side : T (finite (side_on a b x lo hi))
  unfolding side_on
  fine_side = nearest_fine _ _ (small_finite _ ends.0) (small_finite _ ends.1)

-- ---- the edge
module _ (e : Edge) (x y lo hi : Float) (f : T (fits binary64 lo)) (g : T (fits binary64 hi)) (tame : tame_on e x y lo hi ≡ true) where
  parts : (in_order lo hi ≡ true) × (side_tame e.ax e.bx x lo hi ≡ true) × (side_tame e.ay e.by y lo hi ≡ true)
      × (side_tame e.az e.bz f0 lo hi ≡ true)
  unfolding tame_on
  parts =
      let a = both_true (in_order lo hi) _ tame in
      let b = both_true (side_tame e.ax e.bx x lo hi) _ a.1 in
      let c = both_true (side_tame e.ay e.by y lo hi) _ b.1 in
      (a.0, b.0, c.0, c.1)

  pub places : Ordered lo hi
  places = ordered lo hi f g parts.0

  zs : Small (at e.az e.bz lo ⊖ f0) × Small (at e.az e.bz hi ⊖ f0)
  zs = ends e.az e.bz f0 lo hi places parts.3

  z₀ : T (finite (at e.az e.bz lo))
  z₀ = (sub_parts _ f0 (small_finite _ zs.0)).0

  z₁ : T (finite (at e.az e.bz hi))
  z₁ = (sub_parts _ f0 (small_finite _ zs.1)).0

  pub high_fine : T (finite (high_on e lo hi))
  unfolding high_on
  high_fine = either_of (λ w. T (finite w)) _ _ z₀ z₁

  pub least_low : T (le O (least_on e x y lo hi))
  unfolding least_on
  least_low = distance_low _ _ (fine_side e.ax e.bx x lo hi places parts.1) (fine_side e.ay e.by y lo hi places parts.2)

  module _ (t : Float) (i : In lo hi t) where
    pub under_high : T (le (at e.az e.bz t) (high_on e lo hi)) × T (finite (at e.az e.bz t))
    unfolding high_on
    under_high =
        let b = along_on e.az e.bz lo hi t (unit_finite lo places.low) (unit_finite hi places.high) (unit_finite t i.unit)
        i.low i.high z₀ z₁ in
        (b.high, b.fine)

    tx : Small (at e.ax e.bx t ⊖ x)
    tx = there e.ax e.bx x lo hi places parts.1 t i

    ty : Small (at e.ay e.by t ⊖ y)
    ty = there e.ay e.by y lo hi places parts.2 t i

    pub distance_fine : T (le O (distance_at e x y t)) × T (finite (distance_at e x y t))
    unfolding distance_at
    distance_fine = small_distance _ _ tx ty

    pub farther : T (le (least_on e x y lo hi) (distance_at e x y t))
    unfolding least_on distance_at
    farther =
        hypot_counts _ _ _ _ (fine_side e.ax e.bx x lo hi places parts.1) (fine_side e.ay e.by y lo hi places parts.2)
        (small_finite _ tx) (small_finite _ ty)
        (nearer_side e.ax e.bx x lo hi places parts.1 t i) (nearer_side e.ay e.by y lo hi places parts.2 t i)

    pub least_fine : T (finite (least_on e x y lo hi))
    least_fine = finite_between O _ _ tt distance_fine.1 least_low farther
