-- Document 02, request 4: an operation that raises the whole mesh by one z amount when a part goes up on parallels. It works out high z and eps afresh; the
-- grid stays.
use Rattle.std.specs.Prelude.{cond, List, [], ◌∷◌, ◌++◌, ◌≡◌, ℕ, zero, suc, ◌+◌, ◌*◌, ◌%◌, ltb, eqb, Float, length}
use Rattle.numbers.specs.Reals.{◌⊕◌}
use Rattle.plane.specs.declared.Bounds.{Bounds}
use Rattle.plane.specs.Mesh.{triangle_of, top_of}
use Rattle.plane.specs.Ranges.{is_coordinate}
use Rattle.spans.specs.Mesh.{first_bad, eps_of}
use Rattle.grid.specs.declared.Header.{Header}
use Rattle.rules.specs.Ladder.{refuse, demand}
use Rattle.rules.specs.Limits.{most}
use Rattle.grid.specs.Grid.{triangles_in}
use Rattle.grid.specs.Header.{in_ranges}
use Rattle.grid.specs.Boxes.{box_at, is_boxed, five_of}
use Rattle.grid.specs.Build.{Built, is_nowhere, told_with, refused_by, accepted_with, build_of, outcome}
use Rattle.grid.specs.Index.{index_of, BuiltFrom}

-- ---- what becomes of the mesh, the boxes and the header

-- Number k of a mesh: of three numbers in a row, x, y and z, the last has the amount added.
unfoldable pub lifted_at : Float → ℕ → Float → Float
lifted_at amount k x = cond (eqb (k % 3) 2) (x ⊕ amount) x

-- The numbers from number k on.
unfoldable pub lifted_from : Float → ℕ → List Float → List Float
lifted_from amount k [] = []
lifted_from amount k (x ∷ xs) = lifted_at amount k x ∷ lifted_from amount (k + 1) xs

-- A mesh raised by the amount.
unfoldable pub lifted : Float → List Float → List Float
lifted amount mesh = lifted_from amount 0 mesh

-- A box with another high z.
abbrev pub topped : Bounds → Float → Bounds
topped b z = record { low_x = b.low_x; low_y = b.low_y; high_x = b.high_x; high_y = b.high_y; top = z }

-- The box table of the first n triangles of a raised mesh: the x and y numbers as handed, high z worked out afresh.
unfoldable pub topped_of : List Float → List Float → ℕ → List Float
topped_of mesh boxes zero = []
topped_of mesh boxes (suc n) = topped_of mesh boxes n ++ five_of (topped (box_at boxes n) (top_of (triangle_of mesh n)))

-- The header of a raised mesh: eps worked out afresh, the rest stays.
unfoldable pub raised_header : List Float → Header → Header
raised_header mesh h =
    record {
      n = h.n;
      origin_x = h.origin_x;
      origin_y = h.origin_y;
      cell = h.cell;
      columns = h.columns;
      rows = h.rows;
      floor = h.floor;
      eps = eps_of mesh h.n;
      r = h.r;
    }

-- ---- what is refused

-- 7: the header out of its ranges, its n not the mesh's, or a coordinate that 4 would refuse. 4: a new z leaves its range.
unfoldable pub refusal_of_index : List Float → Header → Float → ℕ
refusal_of_index mesh h amount =
    demand (in_ranges h) 7
    (demand (eqb (length mesh) (h.n * 9)) 7
    (demand (is_nowhere (first_bad mesh)) 7
    (demand (is_nowhere (first_bad (lifted amount mesh))) 4
    0)))

-- 1: mesh not a multiple of 9 or over 65,536 triangles. 23: box table not five numbers a triangle. 2: an amount not finite or of magnitude over 1e6.
unfoldable pub refusal_of : List Float → List Float → Header → Float → ℕ
refusal_of mesh boxes h amount =
    demand (eqb (length mesh % 9) 0) 1
    (refuse (ltb most (triangles_in mesh)) 1
    (demand (is_boxed mesh boxes) 23
    (demand (is_coordinate amount) 2
    (refusal_of_index mesh h amount))))

-- ---- what is left

-- The answer, the mesh and the box table.
pub record Raised : Type 0 where
  pub answer : Built
  pub mesh : List Float
  pub boxes : List Float

abbrev pub left : Built → List Float → List Float → Raised
left b mesh boxes = record { answer = b; mesh = mesh; boxes = boxes }

-- Raising: refused, nothing has changed, and 4 tells the first new z in mesh order that leaves its range.
unfoldable pub raise_of : List Float → List Float → Header → Float → Raised
raise_of mesh boxes h amount =
    let up = lifted amount mesh in
    let k = refusal_of mesh boxes h amount in
    cond (eqb k 0) (left (accepted_with (raised_header up h)) up (topped_of up boxes h.n)) (left (refused_by k (told_with k up)) mesh boxes)

-- ---- what follows for an index that is built from its mesh

-- What `raise` promises of what it leaves, with its answer b, whatever starts and members are: "A built index, raised, equals, field for field, the one built
-- afresh from the raised mesh with the same floor and r." So it is again an index built from its mesh, as every question and the plan want it, and can be
-- raised again.
pub record RaisePromise (mesh boxes : List Float) (h : Header) (mesh' boxes' : List Float) (b : Built) : Type 0 where
  pub afresh : (starts members : List ℕ) (x : BuiltFrom (index_of mesh h starts members boxes)) → b.refusal ≡ 0
      → build_of mesh' x.floor x.r x.old_starts x.old_members x.old_boxes ≡ outcome (accepted_with b.header) starts members boxes'
  pub still : (starts members : List ℕ) → BuiltFrom (index_of mesh h starts members boxes) → b.refusal ≡ 0
      → BuiltFrom (index_of mesh' b.header starts members boxes')
