-- What the set-up height promises over the index built from its mesh: a good question is accepted; which triangles it looks at, in the words of demand 3; and
-- that height and boxes met are those of a plain walk over the whole mesh.
use Rattle.std.specs.Prelude.{true, List, ◌≡◌, ℕ, length}
use Rattle.query.specs.declared.Patch.{Patch}
use Rattle.query.specs.Asked.{NoneAbove}
use Rattle.query.specs.Looked.{SharesCell, EachOnce}
use Rattle.um.specs.Index.{Index, covers_of, BuiltFrom}
use Rattle.setup.specs.declared.Question.{Question}
use Rattle.setup.specs.Question.{is_question, reach_of, plain_walk, patch_of}
use Rattle.setup.specs.Answer.{Answer, looked_in}

-- Triangle i shares a grid cell with the question.
abbrev pub Shares : Index → Patch → ℕ → Type 0
Shares ix p i = SharesCell (covers_of ix) ix.header.n ix.header.columns p i

-- A good question: a mark for each triangle, none above the stamp, and its numbers in their ranges.
pub record GoodQuestion (ix : Index) (marks : List ℕ) (stamp : ℕ) (q : Question) : Type 0 where
  pub marked : length marks ≡ ix.header.n
  pub low : NoneAbove stamp marks
  pub numbers_in_range : is_question q ≡ true

-- Of an accepted question with the answer a:
--   looks  it has looked at each triangle sharing a grid cell with the question exactly once, and at no other;
--   count  the count reported is the number of those triangles;
--   plain  height and boxes met are those of the plain walk over the mesh from the floor.
pub record Plain (ix : Index) (marks : List ℕ) (stamp : ℕ) (q : Question) (a : Answer) : Type 0 where
  pub looks : EachOnce (Shares ix (patch_of ix.header (reach_of q))) (looked_in ix marks stamp (patch_of ix.header (reach_of q)))
  pub count : a.count ≡ length (looked_in ix marks stamp (patch_of ix.header (reach_of q)))
  pub plain : record { height = a.height; met = a.met } ≡ plain_walk ix.mesh (reach_of q) ix.header.floor ix.header.n

pub record SetupPromise (ix : Index) (marks : List ℕ) (stamp : ℕ) (q : Question) (a : Answer) : Type 0 where
  pub accepted : BuiltFrom ix → GoodQuestion ix marks stamp q → a.refusal ≡ 0
  pub walked : BuiltFrom ix → a.refusal ≡ 0 → Plain ix marks stamp q a
