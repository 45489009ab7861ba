-- Document 01, "Mesh, grid and marks": the first number that a mesh may not hold, where it lies, and its eps.
use Rattle.std.specs.Prelude.{ℕ, zero, suc, ◌+◌, true, false, cond, List, [], ◌∷◌, Float, Option, not, position}
use Rattle.std.specs.Float.{inf}
use Rattle.plane.specs.Ranges.{is_coordinate}
use Rattle.numbers.specs.Reals.{◌⊗◌, f0, f1, slack, max_of, min_of, abs_of}
use Rattle.plane.specs.Mesh.{triangle_of, bounds_of}
use Rattle.plane.specs.declared.Triangle.{Triangle}
use Rattle.plane.specs.declared.Bounds.{Bounds}
use Rattle.spans.specs.declared.Extent.{Extent}

-- Refusal 4: the first number of a mesh that is no coordinate, or none.
unfoldable pub first_bad : List Float → Option ℕ
first_bad mesh = position (λ x. not (is_coordinate x)) mesh

-- The box of triangle i.
unfoldable pub box_of : List Float → ℕ → Bounds
box_of mesh i = bounds_of (triangle_of mesh i)

-- Extremes with those of one box more: first the box, as its corners give it, then the running value.
unfoldable pub widened : Extent → Bounds → Extent
widened e b =
    record {
      left = min_of e.left b.low_x;
      bottom = min_of e.bottom b.low_y;
      right = max_of e.right b.high_x;
      top = max_of e.top b.high_y;
    }

-- lo and hi: the x and y extremes of the first n triangles. Of none, lo is plus infinity and hi minus infinity.
unfoldable pub extent_of : List Float → ℕ → Extent
extent_of mesh zero = record { left = inf false; bottom = inf false; right = inf true; top = inf true }
extent_of mesh (suc n) = widened (extent_of mesh n) (box_of mesh n)

-- The largest of m and the magnitudes of a corner's x, y and z.
unfoldable pub farther : Float → Float → Float → Float → Float
farther m x y z = max_of (max_of (max_of m (abs_of x)) (abs_of y)) (abs_of z)

-- The largest magnitude of a triangle's numbers, from 0 on and corner after corner.
unfoldable pub farthest_of : Triangle → Float
farthest_of t = farther (farther (farther f0 t.ax t.ay t.az) t.bx t.by t.bz) t.cx t.cy t.cz

-- The scale of the first n triangles: the largest of 1 and their magnitudes.
unfoldable pub scale_of : List Float → ℕ → Float
scale_of mesh zero = f1
scale_of mesh (suc n) = max_of (scale_of mesh n) (farthest_of (triangle_of mesh n))

-- eps = 1e-12 * max(1, largest coordinate magnitude)
unfoldable pub eps_of : List Float → ℕ → Float
eps_of mesh n = slack ⊗ max_of (scale_of mesh n) f1
