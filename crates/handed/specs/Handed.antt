-- A header and an index as C hands them over: measures (origin x, origin y, cell, floor, eps, r), sizes (n, columns, rows) and the tables.
use Rattle.std.specs.Prelude.{List, [], ◌∷◌, ℕ, Float, get_or}
use Rattle.numbers.specs.Reals.{num}
use Rattle.grid.specs.declared.Header.{Header}
use Rattle.grid.specs.Index.{Index, index_of}

-- A header laid out for C.
abbrev pub measures_of : Header → List Float
measures_of h = h.origin_x ∷ h.origin_y ∷ h.cell ∷ h.floor ∷ h.eps ∷ h.r ∷ []

abbrev pub sizes_of : Header → List ℕ
sizes_of h = h.n ∷ h.columns ∷ h.rows ∷ []

-- The header that C hands over.
unfoldable pub header_from : List Float → List ℕ → Header
header_from fs ns =
    record {
      n = get_or ns 0 0;
      origin_x = num fs 0;
      origin_y = num fs 1;
      cell = num fs 2;
      columns = get_or ns 1 0;
      rows = get_or ns 2 0;
      floor = num fs 3;
      eps = num fs 4;
      r = num fs 5;
    }

-- The index that C hands over.
abbrev pub index_from : List Float → List Float → List ℕ → List ℕ → List ℕ → List Float → Index
index_from mesh fs ns starts members boxes = index_of mesh (header_from fs ns) starts members boxes
