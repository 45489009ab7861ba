-- What the C function over STL files leaves behind: the refusal, the lent mesh, and the number of triangles.
use Rattle.std.specs.Prelude.{List, [], ◌∷◌, ℕ, Float}
use Rattle.stl.specs.Reader as reader

pub record StlLeft : Type 0 where
  pub refusal : ℕ
  pub mesh : List Float
  pub count : List ℕ

abbrev pub stl_left : ℕ → List Float → List ℕ → StlLeft
stl_left k ms ns = record { refusal = k; mesh = ms; count = ns }

unfoldable pub stl_left_by : reader.Outcome → StlLeft
stl_left_by o = stl_left o.answer.refusal o.mesh (o.answer.n ∷ [])
