-- Document 02, request 4: the box table. The five numbers of each triangle, low x and y, high x, y and z, stand in it in mesh order, and everybody who wants a
-- triangle's box or top takes it from there; only the builder folds it from the corners.
use Rattle.std.specs.Prelude.{Bool, List, [], ◌∷◌, ◌++◌, ℕ, zero, suc, ◌+◌, ◌*◌, eqb, Float, length}
use Rattle.numbers.specs.Reals.{num}
use Rattle.plane.specs.declared.Bounds.{Bounds}
use Rattle.spans.specs.Mesh.{box_of}
use Rattle.grid.specs.Grid.{triangles_in}

-- The box of triangle i, as the table has it: its entries from 5 * i on.
unfoldable pub box_at : List Float → ℕ → Bounds
box_at boxes i =
    record {
      low_x = num boxes (5 * i);
      low_y = num boxes (5 * i + 1);
      high_x = num boxes (5 * i + 2);
      high_y = num boxes (5 * i + 3);
      top = num boxes (5 * i + 4);
    }

-- 23: a table is five numbers for each triangle of a mesh.
unfoldable pub is_boxed : List Float → List Float → Bool
is_boxed mesh boxes = eqb (length boxes) (triangles_in mesh * 5)

-- The numbers of a box, in their order.
abbrev pub five_of : Bounds → List Float
five_of b = b.low_x ∷ b.low_y ∷ b.high_x ∷ b.high_y ∷ b.top ∷ []

-- The boxes of the first n triangles of a mesh, folded from their corners.
unfoldable pub boxes_of : List Float → ℕ → List Float
boxes_of mesh zero = []
boxes_of mesh (suc n) = boxes_of mesh n ++ five_of (box_of mesh n)
