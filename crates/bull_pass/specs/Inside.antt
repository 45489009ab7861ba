-- When a bull-nose cutter surely passes over a triangle on a part of a chord. No answer is defined here: where this says so, no contact there, lifted, stands
-- above the tip, which proofs/Passing shows; where it does not, the search decides.
use Rattle.std.specs.Prelude.{Bool, true, false, cond, ◌&&◌, ℕ, zero, suc, Float, None, Option, Some}
use Rattle.std.specs.Float.Ieee.{lt, le}
use Rattle.numbers.specs.Reals.{◌⊕◌, ◌⊖◌, ◌⊗◌, ◌⊘◌, f0, f1, f2, minus_slack, max_of, min_of}
use Rattle.roots.specs.Root.{root_of}
use Rattle.roots.specs.Hypot.{hypot_of}
use Rattle.plane.specs.declared.Triangle.{Triangle}
use Rattle.cutters.specs.declared.Edge.{Edge}
use Rattle.cutters.specs.declared.Gradient.{Gradient}
use Rattle.cutters.specs.declared.Rest.{Rest}
use Rattle.cutters.specs.Touch.{edge_ab, edge_bc, edge_ca, along, facing_of}
use Rattle.plane.specs.Ranges.{is_coordinate, is_radius}
use Rattle.bound.specs.Inside.{nearer_of}
use Rattle.bull.specs.Bull.{bull_profile, bull_rest}
use Rattle.reach.specs.declared.Chord.{Chord}
use Rattle.bull_pass.specs.declared.Strip.{Strip}
use Rattle.bull_pass.specs.declared.Block.{Block}
use Rattle.bull_pass.specs.declared.March.{March}
use Rattle.bull_pass.specs.declared.Range.{Range}
use Rattle.bull_pass.specs.declared.Products.{Products}

-- The chord's box from lo to hi; a contact of at most the lower tip less the lift does not stand above the tip.
unfoldable pub strip_of : Chord → Float → Float → Float → Float → Strip
strip_of m r rc lo hi =
    let xa = along m.ax m.bx lo in
    let xb = along m.ax m.bx hi in
    let ya = along m.ay m.by lo in
    let yb = along m.ay m.by hi in
    record {
      low_x = min_of xa xb;
      high_x = max_of xa xb;
      low_y = min_of ya yb;
      high_y = max_of ya yb;
      high = min_of (along m.az m.bz lo) (along m.az m.bz hi) ⊖ m.lift;
      r = r;
      rc = rc;
    }

-- Numbers of ordinary size, and a height that keeps its promise as it is computed.
unfoldable pub axis_fair : Float → Float → Float → Float → Bool
axis_fair a b lo hi = is_coordinate (along a b lo) && is_coordinate (along a b hi)

unfoldable pub tip_kept : Float → Float → Bool
tip_kept low lift =
    let high = low ⊖ lift in
    is_coordinate lift && (is_coordinate high && (is_coordinate (high ⊕ lift) && le (high ⊕ lift ⊖ low) f0))

unfoldable pub tip_fair : Chord → Float → Float → Bool
tip_fair m lo hi = tip_kept (min_of (along m.az m.bz lo) (along m.az m.bz hi)) m.lift

unfoldable pub cutter_fair : Float → Float → Bool
cutter_fair r rc = is_radius r && (is_radius rc && le (root_of (rc ⊗ rc)) rc)

unfoldable pub fair_of : Chord → Float → Float → Float → Float → Bool
fair_of m r rc lo hi =
    cutter_fair r rc && (axis_fair m.ax m.bx lo hi && (axis_fair m.ay m.by lo hi && (axis_fair m.az m.bz lo hi && tip_fair m lo hi)))

-- Low..high and the strip's side lie a coordinate apart.
unfoldable pub side_tame : Float → Float → Float → Float → Bool
side_tame low high a b = is_coordinate (low ⊖ b) && is_coordinate (high ⊖ a)

unfoldable pub tame_of : Strip → Block → Bool
tame_of k b =
    side_tame b.low_x b.high_x k.low_x k.high_x
    && (side_tame b.low_y b.high_y k.low_y k.high_y && is_coordinate b.z)

-- The least distance of a block from the strip.
unfoldable pub least_of : Strip → Block → Float
least_of k b =
    hypot_of (nearer_of (b.low_x ⊖ k.high_x) (b.high_x ⊖ k.low_x)) (nearer_of (b.low_y ⊖ k.high_y) (b.high_y ⊖ k.low_y))

-- Whether nothing in a block gives a tip above the strip's height: the block's height is not above it, or is not less the profile at the least distance.
unfoldable pub lowered_of : Strip → Block → Bool
lowered_of k b = le (b.z ⊖ bull_profile (min_of (least_of k b) k.r) k.r k.rc) k.high

unfoldable pub under_of : Strip → Block → Bool
under_of k b = cond (tame_of k b) (cond (le (b.z ⊖ f0) k.high) true (lowered_of k b)) false

unfoldable pub point_block : Float → Float → Float → Block
point_block x y z = record { low_x = x; high_x = x; low_y = y; high_y = y; z = z }

-- An edge from lo to hi.
unfoldable pub edge_block : Edge → Float → Float → Block
edge_block e lo hi =
    let xa = along e.ax e.bx lo in
    let xb = along e.ax e.bx hi in
    let ya = along e.ay e.by lo in
    let yb = along e.ay e.by hi in
    record {
      low_x = min_of xa xb;
      high_x = max_of xa xb;
      low_y = min_of ya yb;
      high_y = max_of ya yb;
      z = max_of (along e.az e.bz lo) (along e.az e.bz hi);
    }

unfoldable pub corners_pass : Strip → Triangle → Bool
corners_pass k t =
    under_of k (point_block t.ax t.ay t.az)
    && (under_of k (point_block t.bx t.by t.bz) && under_of k (point_block t.cx t.cy t.cz))

-- The same of an edge from lo to hi.
unfoldable pub edge_fair : Edge → Float → Float → Bool
edge_fair e lo hi = axis_fair e.ax e.bx lo hi && (axis_fair e.ay e.by lo hi && axis_fair e.az e.bz lo hi)

unfoldable pub piece_under : Strip → Edge → Float → Float → Bool
piece_under k e lo hi = cond (edge_fair e lo hi) (under_of k (edge_block e lo hi)) false

-- Along an edge block by block: a block that is not under is halved, after one that is the next is twice as long.
unfoldable pub march_step : Strip → Edge → March → March
march_step k e s =
    let hi = min_of (s.lo ⊕ s.w) f1 in
    cond (piece_under k e s.lo hi)
    (record { lo = hi; w = f2 ⊗ s.w; done = le f1 hi })
    (record { lo = s.lo; w = s.w ⊘ f2; done = false })

-- At most n blocks.
unfoldable pub march_run : Strip → Edge → ℕ → March → Bool
march_run k e zero s = false
march_run k e (suc n) s = let u = march_step k e s in cond u.done true (march_run k e n u)

unfoldable pub edge_passes : Strip → Edge → Bool
edge_passes k e = march_run k e 20 (record { lo = f0; w = f1; done = false })

unfoldable pub edges_pass : Strip → Triangle → Bool
edges_pass k t = edge_passes k (edge_ab t) && (edge_passes k (edge_bc t) && edge_passes k (edge_ca t))

-- The facet: the places where the cutter may rest lie in a box, over which a weight is a range;
-- none of them is on the triangle where a weight is below -1e-12 throughout.
unfoldable pub range_of : Float → Float → Range
range_of a b = record { low = min_of a b; high = max_of a b }

-- The weight (x - y) / det for x from a to b and y from c to d, at its two ends.
unfoldable pub weight_of : Products → Float → Range
weight_of p det = record { low = (min_of p.a p.b ⊖ max_of p.c p.d) ⊘ det; high = (max_of p.a p.b ⊖ min_of p.c p.d) ⊘ det }

unfoldable pub plain_products : Products → Bool
plain_products p = is_coordinate p.a && (is_coordinate p.b && (is_coordinate p.c && is_coordinate p.d))

unfoldable pub plain_range : Range → Bool
plain_range r = is_coordinate r.low && is_coordinate r.high

unfoldable pub outside_of : Range → Range → Bool
outside_of v w = cond (lt v.high minus_slack) true (cond (lt w.high minus_slack) true (lt (f1 ⊖ v.low ⊖ w.low) minus_slack))

unfoldable pub ranges_miss : Range → Range → Bool
ranges_miss v w =
    cond (plain_range v) (cond (plain_range w) (outside_of (range_of v.low v.high) (range_of w.low w.high)) false) false

unfoldable pub products_miss : Products → Products → Float → Bool
products_miss v w det = cond (plain_products v) (cond (plain_products w) (ranges_miss (weight_of v det) (weight_of w det)) false) false

-- No place between p and q is on the triangle.
unfoldable pub misses_of : Triangle → Rest → Rest → Bool
misses_of t p q =
    let bx = t.bx ⊖ t.ax in
    let by = t.by ⊖ t.ay in
    let cx = t.cx ⊖ t.ax in
    let cy = t.cy ⊖ t.ay in
    let dx = p.x ⊖ t.ax in
    let dy = p.y ⊖ t.ay in
    let gx = q.x ⊖ t.ax in
    let gy = q.y ⊖ t.ay in
    let det = bx ⊗ cy ⊖ cx ⊗ by in
    cond (is_coordinate det)
    (products_miss (record { a = dx ⊗ cy; b = gx ⊗ cy; c = cx ⊗ dy; d = cx ⊗ gy }) (record { a = bx ⊗ dy; b = bx ⊗ gy; c = dx ⊗ by; d = gx ⊗ by }) det)
    false

unfoldable pub rests_miss : Strip → Triangle → Gradient → Bool
rests_miss k t g =
    misses_of t (bull_rest (record { x = k.low_x; y = k.low_y; r = k.r; rc = k.rc }) g)
    (bull_rest (record { x = k.high_x; y = k.high_y; r = k.r; rc = k.rc }) g)

unfoldable pub facet_passes : Strip → Triangle → Option Gradient → Bool
facet_passes k t None = true
facet_passes k t (Some g) = rests_miss k t g

-- All of it.
unfoldable pub passes_of : Triangle → Chord → Float → Float → Float → Float → Bool
passes_of t m r rc lo hi =
    let k = strip_of m r rc lo hi in
    fair_of m r rc lo hi && (corners_pass k t && (facet_passes k t (facing_of t) && edges_pass k t))
