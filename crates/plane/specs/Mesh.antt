-- Document 01, "Mesh": a mesh is nine numbers a triangle, corner after corner, x, y and z each.
use Rattle.std.specs.Prelude.{List, ℕ, ◌+◌, ◌*◌, Float}
use Rattle.numbers.specs.Reals.{num, min_of, max_of}
use Rattle.plane.specs.declared.Triangle.{Triangle}
use Rattle.plane.specs.declared.Bounds.{Bounds}

-- triangle i of a mesh: its entries from 9 * i on
unfoldable pub triangle_of : List Float → ℕ → Triangle
triangle_of mesh i =
    record {
      ax = num mesh (9 * i);
      ay = num mesh (9 * i + 1);
      az = num mesh (9 * i + 2);
      bx = num mesh (9 * i + 3);
      by = num mesh (9 * i + 4);
      bz = num mesh (9 * i + 5);
      cx = num mesh (9 * i + 6);
      cy = num mesh (9 * i + 7);
      cz = num mesh (9 * i + 8);
    }

-- the smallest and the largest of a coordinate's three values, folded from the first corner on
unfoldable pub lowest : Float → Float → Float → Float
lowest a b c = min_of (min_of a b) c

unfoldable pub highest : Float → Float → Float → Float
highest a b c = max_of (max_of a b) c

-- a triangle's highest z
unfoldable pub top_of : Triangle → Float
top_of t = highest t.az t.bz t.cz

-- a triangle's box
unfoldable pub bounds_of : Triangle → Bounds
bounds_of t =
    record {
      low_x = lowest t.ax t.bx t.cx;
      low_y = lowest t.ay t.by t.cy;
      high_x = highest t.ax t.bx t.cx;
      high_y = highest t.ay t.by t.cy;
      top = top_of t;
    }
