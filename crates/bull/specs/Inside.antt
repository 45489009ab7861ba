-- What the functions inside the contact promise each other; no answer is defined here.
use Rattle.std.specs.Prelude.{Bool, true, cond, ◌&&◌, Float, ◌≡◌}
use Rattle.std.specs.Float.Ieee.{le}
use Rattle.numbers.specs.Reals.{◌⊕◌, ◌⊖◌, ◌⊗◌, ◌⊘◌, f0, min_of, max_of}
use Rattle.roots.specs.Root.{root_of}
use Rattle.cutters.specs.declared.Edge.{Edge}
use Rattle.plane.specs.Ranges.{is_coordinate, is_radius}
use Rattle.caps.specs.Inside.{high_on, least_on, tame_on}
use Rattle.bull.specs.declared.Bull.{Bull}
use Rattle.bull.specs.Bull.{bull_profile}
use Rattle.roots.specs.Hypot.{hypot_of}
use Rattle.bull.specs.declared.Way.{Way}

-- A number that the cutter's height over its tip is nowhere below. It is 0 to the bit; that the root of rc * rc is not above rc is not shown, but asked. A NaN
-- for numbers that are no radius.
unfoldable pub base_of : Bull → Float
base_of k = cond (is_radius k.r && is_radius k.rc) (min_of (k.rc ⊖ root_of (k.rc ⊗ k.rc)) f0) (f0 ⊘ f0)

-- Whether the tip over a vertex at the height z is at most b, wherever the vertex lies: dx and dy are its place seen from the axis.
unfoldable pub low_vertex : Float → Float → Float → Float → Float → Bool
low_vertex base z dx dy b = le (z ⊖ base) b && (is_coordinate dx && is_coordinate dy)

-- What the tip's height over an edge from lo to hi is at most. The cutter's height over its tip grows with the distance from the axis, so it is the edge's
-- higher end less the profile at the edge's least distance, which is taken from its box in plan.
-- Within the flat part it is the higher end less the least profile of all.
unfoldable pub over_of : Bull → Float → Float → Float → Float
over_of k base z d = cond (le (d ⊖ (k.r ⊖ k.rc)) f0) (z ⊖ base) (z ⊖ bull_profile d k.r k.rc)

-- A NaN, by which nothing is left out, where the numbers are not of ordinary size.
unfoldable pub cap_of : Bull → Float → Edge → Float → Float → Float
cap_of k base e lo hi =
    cond (le base f0)
    (cond (tame_on e k.x k.y lo hi) (over_of k base (high_on e lo hi) (min_of (least_on e k.x k.y lo hi) k.r)) (f0 ⊘ f0))
    (f0 ⊘ f0)

-- An edge as the search reads it: where it starts and how far its end lies from there. The tip's height over it is `bull_at`, with the differences taken once.

abbrev pub way_of : Edge → Way
way_of e = record { ax = e.ax; ay = e.ay; ex = e.bx ⊖ e.ax; ey = e.by ⊖ e.ay; az = e.az; ez = e.bz ⊖ e.az }

unfoldable pub way_at : Bull → Way → Float → Float
way_at k w t =
    w.az ⊕ t ⊗ w.ez ⊖ bull_profile (min_of (hypot_of (w.ax ⊕ t ⊗ w.ex ⊖ k.x) (w.ay ⊕ t ⊗ w.ey ⊖ k.y)) k.r) k.r k.rc

-- What the functions inside the search promise each other: a sum of two squares that is at most `flat` belongs to a distance within the cutter's flat part.

pub record FlatTo (k : Bull) (flat : Float) : Type 0 where
  pub near : (p q : Float) → le (p ⊗ p ⊕ q ⊗ q) flat ≡ true → le (min_of (hypot_of p q) k.r ⊖ (k.r ⊖ k.rc)) f0 ≡ true

-- What the search is handed: the cutter's base, the edge's way, and the larger of the two ends' heights.
pub record Begun (k : Bull) (base : Float) (e : Edge) (w : Way) (flat lo hi m : Float) : Type 0 where
  pub base_is : base ≡ base_of k
  pub way_is : w ≡ way_of e
  pub flat_to : FlatTo k flat
  pub ends : m ≡ max_of (way_at k w lo) (way_at k w hi)
