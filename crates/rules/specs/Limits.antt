-- Document 01's limits of what can be counted.
use Rattle.std.specs.Prelude.{ℕ}

-- The most triangles of a mesh, columns and rows of its index, questions of a job and moves of a list.
abbrev pub most : ℕ
most = 65536

-- The most cells of an index.
abbrev pub most_cells : ℕ
most_cells = 1048576
