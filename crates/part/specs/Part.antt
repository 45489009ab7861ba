-- Document 02, request 3: "What comes out is a mesh that the builder takes like any other, and demand 3 is read over it." From the bytes of an STL file to the
-- answer: the file is read, the index of its mesh is built, and the swept-disk height is asked. The builder says 23 unless the lent box table is five numbers
-- for each triangle of the file.
use Rattle.std.specs.Prelude.{cond, List, ℕ, ◌*◌, eqb, Float, take}
use Rattle.fields.specs.Little.{value}
use Rattle.fields.specs.Rows.{row}
use Rattle.grid.specs.declared.Header.{Header}
use Rattle.grid.specs.Build as build
use Rattle.grid.specs.Build.{build_of}
use Rattle.grid.specs.Index.{index_of, BuiltFrom}
use Rattle.query.specs.Looked.{looked_in}
use Rattle.ask.specs.Ask.{Answer, refused_by}
use Rattle.height.specs.Sweep.{Sweep, patch_for, capsule_for}
use Rattle.height.specs.Height.{max_height_of}
use Rattle.height.specs.Demand.{Demand3}
use Rattle.stl.specs.Layout.{count}
use Rattle.stl.specs.Reader as reader
use Rattle.stl.specs.Reader.{number_of, read_of}

-- The mesh that an STL file holds.
abbrev pub mesh_of : List ℕ → List Float
mesh_of bytes = row (number_of bytes) 0 (9 * value count bytes)

-- ---- a mesh: its index, then the question

-- the answer, and the tables of the index and the marks afterwards
pub record Asked : Type 0 where
  pub answer : Answer
  pub starts : List ℕ
  pub members : List ℕ
  pub boxes : List Float
  pub marks : List ℕ

abbrev pub asked : Answer → List ℕ → List ℕ → List Float → List ℕ → Asked
asked a ss es xs ks = record { answer = a; starts = ss; members = es; boxes = xs; marks = ks }

-- after the build b: its refusal, or what max_height answers over the index that was built
unfoldable pub asked_after : build.Outcome → List Float → List ℕ → ℕ → Sweep → Asked
asked_after b mesh marks stamp s =
    let o = max_height_of (index_of mesh b.built.header b.starts b.members b.boxes) marks stamp s in
    cond (eqb b.built.refusal 0)
    (asked o.answer b.starts b.members b.boxes o.marks)
    (asked (refused_by b.built.refusal stamp) b.starts b.members b.boxes marks)

unfoldable pub mesh_height_of : List Float → Float → Float → List ℕ → List ℕ → List Float → List ℕ → ℕ → Sweep → Asked
mesh_height_of mesh floor r starts members boxes marks stamp s = asked_after (build_of mesh floor r starts members boxes) mesh marks stamp s

-- ---- a file: its mesh, then as above

-- what is asked, and the lent mesh afterwards
pub record Left : Type 0 where
  pub mesh : List Float
  pub rest : Asked

abbrev pub left : List Float → Asked → Left
left ms a = record { mesh = ms; rest = a }

-- after the reading o: its refusal, or what the mesh that was read gives
unfoldable pub left_after : reader.Outcome → Float → Float → List ℕ → List ℕ → List Float → List ℕ → ℕ → Sweep → Left
left_after o floor r starts members boxes marks stamp s =
    left o.mesh
    (cond (eqb o.answer.refusal 0)
    (mesh_height_of (take (9 * o.answer.n) o.mesh) floor r starts members boxes marks stamp s)
    (asked (refused_by o.answer.refusal stamp) starts members boxes marks))

unfoldable pub part_height_of : List ℕ → List Float → Float → Float → List ℕ → List ℕ → List Float → List ℕ → ℕ → Sweep → Left
part_height_of bytes mesh floor r starts members boxes marks stamp s = left_after (read_of bytes mesh) floor r starts members boxes marks stamp s

-- ---- demand 3, over the mesh itself

-- With some header the tables left are the index built from this mesh, and over that index the answer meets demand 3.
pub record MeetsDemand3 (mesh : List Float) (starts members : List ℕ) (boxes : List Float) (marks : List ℕ) (stamp : ℕ) (s : Sweep) (a : Answer) : Type 0 where
  pub header : Header
  pub built : BuiltFrom (index_of mesh header starts members boxes)
  pub demand3 : Demand3 (index_of mesh header starts members boxes) (patch_for header s) (capsule_for header s)
      (looked_in (index_of mesh header starts members boxes) marks stamp (patch_for header s)) a
