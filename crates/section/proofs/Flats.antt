-- Where the square of a distance is at most that of r0, the distance is within r0, and the surface is at z0 there.
use mathlib.Core.Bool.{true}
use mathlib.Core.Path.{◌≡◌}
use lib.Ieee.{Float, le}
use lib.Ieee.Bits.{is_true}
use Rattle.numbers.specs.Reals.{◌⊕◌, ◌⊖◌, ◌⊗◌, min_of}
use Rattle.roots.specs.Hypot.{hypot_of}
use Rattle.cutters.specs.declared.Edge.{Edge}
use Rattle.cutters.specs.Touch.{along, distance_at}
use Rattle.order.proofs.Extremes.{min_under}
use Rattle.section.specs.declared.Section.{Section}
use Rattle.section.specs.Section.{profile_of, height_over, section_at}
use Rattle.section.specs.Inside.{FlatTo}

module _ (s : Section) where
  pub flat_at : (x y : Float) (e : Edge) (flat t : Float) → FlatTo s flat
      → le ((along e.ax e.bx t ⊖ x) ⊗ (along e.ax e.bx t ⊖ x) ⊕ (along e.ay e.by t ⊖ y) ⊗ (along e.ay e.by t ⊖ y)) flat ≡ true
      → along e.az e.bz t ⊖ s.z0 ≡ section_at s x y e t
  unfolding section_at distance_at profile_of height_over
  flat_at x y e flat t f h =
      let d = hypot_of (along e.ax e.bx t ⊖ x) (along e.ay e.by t ⊖ y) in
      rw (is_true (le (min_of d s.r1) s.r0) (min_under d s.r1 s.r0 (f.near _ _ h)))
