-- Over an index that 7 lets pass, with levels that 12 lets pass, the ends of every kept piece are points that a question takes.
use mathlib.Core.Bool.{true, false, ◌&&◌}
use mathlib.Core.List.{List}
use mathlib.Core.Path.{◌≡◌, refl}
use Prim.Native.Nat.{ℕ, ◌<◌}
use native.Mathlib.Omega.{arith}
use lib.Ieee.{Float, of_bits}
use lib.Ieee.Exact.{HasValue}
use Rattle.numbers.specs.Reals.{three_million}
use Rattle.rules.proofs.Branches.{both_true}
use Rattle.plane.specs.declared.Bounds.{Bounds}
use Rattle.plane.specs.Ranges.{is_coordinate, is_radius, is_point}
use Rattle.order.proofs.Whole.{Bounded, bounded_size}
use Rattle.grid.specs.Boxes.{box_at}
use Rattle.grid.specs.Index.{Index}
use Rattle.rules.specs.Every.{every}
use Rattle.query.specs.Usable.{corners_usable, are_coordinates, box_usable, triangle_usable}
use Rattle.rules.proofs.Testing.{every_at}
use Rattle.height.specs.Height.{are_points}
use Rattle.fives.specs.Groups.{Each}
use Rattle.levels.proofs.Boxes.{Sided, Boxed, levels_boxed}
use Rattle.runs.specs.declared.Run.{Run}
use Rattle.runs.specs.Chains.{EachKept}
use Rattle.runs.proofs.Chaining.{each_more}
use Rattle.rows.specs.declared.Axis.{Axis}
use Rattle.rows.proofs.Reaching.{Reached}
use Rattle.parameters.specs.declared.Parameters.{Parameters}
use Rattle.parameters.specs.Terms.{too_fine, any_of}
use Rattle.probe.specs.Probe.{height_under}
use Rattle.row_runs.specs.Sampled.{halves_of_all}
use Rattle.row_runs.proofs.Reaching.{levels_reached, pieces_reached}
use Rattle.plan.specs.Plan.{levels_under}
use Rattle.plan.specs.Lost.{stretches_on}

-- the box of a triangle that passes
box_sided : (b : Bounds) → box_usable b ≡ true → Sided b
unfolding box_usable are_coordinates
box_sided b e =
    let four = (both_true (are_coordinates b.low_x b.low_y b.high_x b.high_y) (is_coordinate b.top) e).0 in
    let x = both_true (is_coordinate b.low_x) (is_coordinate b.low_y && (is_coordinate b.high_x && is_coordinate b.high_y)) four in
    let y = both_true (is_coordinate b.low_y) (is_coordinate b.high_x && is_coordinate b.high_y) x.1 in
    let z = both_true (is_coordinate b.high_x) (is_coordinate b.high_y) y.1 in
    record { x = (x.0, z.0); y = (y.0, z.1) }

boxes_sided : (mesh boxes : List Float) (n : ℕ) → every (triangle_usable mesh boxes) 0 n ≡ true → (i : ℕ) → i < n → Sided (box_at boxes i)
unfolding triangle_usable
boxes_sided mesh boxes n e i h =
    box_sided (box_at boxes i)
    (both_true (corners_usable mesh i) (box_usable (box_at boxes i)) (every_at (triangle_usable mesh boxes) 0 n i e (omega arith) (omega arith))).1

point : (x : Float) → Bounded 3000000 x → is_point x ≡ true
unfolding is_point
point x b = let v : HasValue three_million false 3000000 1 = unfold of_bits in (refl, refl) in bounded_size x three_million 3000000 v b

abbrev pub Pointed : Run → Type 0
Pointed q = are_points q.ax q.ay q.bx q.by ≡ true

pointed : (q : Run) → Reached q → Pointed q
unfolding are_points
pointed q h = rw (point q.ax h.ax, point q.ay h.ay, point q.bx h.bx, point q.by h.by)

module _ (ix : Index) (p : Parameters) (axis : Axis) where
  pub pieces_pointed : every (triangle_usable ix.mesh ix.boxes) 0 ix.header.n ≡ true
      → is_radius ix.header.r ≡ true → any_of (too_fine p axis ix.header.r) (levels_under ix p) ≡ false
      → EachKept Pointed (halves_of_all (height_under ix) p ix.header.r (stretches_on ix p axis))
  unfolding stretches_on Each
  pieces_pointed pass radius coarse =
      let boxed : Each Boxed (levels_under ix p) = unfold levels_under in
      levels_boxed ix.mesh ix.boxes p.level_tolerance ix.header.n p.tolerance ix.header.floor
      (boxes_sided ix.mesh ix.boxes ix.header.n pass) in
      each_more Reached Pointed pointed _
      (pieces_reached (height_under ix) p ix.header.r _
      (levels_reached (height_under ix) p axis ix.header.r radius (levels_under ix p) _ boxed coarse tt))
