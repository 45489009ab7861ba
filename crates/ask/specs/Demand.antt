-- What every question promises over the index built from its mesh: a good question is accepted, and demand 3 of the
-- letter, first half: which triangles it looks at.
use Rattle.std.specs.Prelude.{Bool, true, List, ◌≡◌, ℕ, length}
use Rattle.grid.specs.Index.{Index, BuiltFrom}
use Rattle.query.specs.declared.Patch.{Patch}
use Rattle.query.specs.Asked.{NoneAbove}
use Rattle.query.specs.Looked.{LooksOnce, looked_in}
use Rattle.ask.specs.Ask.{Answer}

-- A good question: a mark for each triangle, none above the stamp, and its numbers and its tool in their ranges.
pub record GoodQuestion (numbers tool : Bool) (ix : Index) (marks : List ℕ) (stamp : ℕ) : Type 0 where
  pub marked : length marks ≡ ix.header.n
  pub low : NoneAbove stamp marks
  pub numbers_in_range : numbers ≡ true
  pub tool_in_range : tool ≡ true

-- Over the index built from its mesh it is accepted: its refusal k is 0.
abbrev pub GoodAccepted : Bool → Bool → Index → List ℕ → ℕ → ℕ → Type 0
GoodAccepted numbers tool ix marks stamp k = BuiltFrom ix → GoodQuestion numbers tool ix marks stamp → k ≡ 0

-- A question with the cells p that has looked at the list `is`, and reports the count:
--   looks  it "has looked at each triangle sharing a grid cell with the question exactly once, and at no other";
--   all    "the count reported is the number of those triangles".
pub record LookedAll (ix : Index) (p : Patch) (is : List ℕ) (count : ℕ) : Type 0 where
  pub looks : LooksOnce ix p is
  pub all : count ≡ length is

-- What a height question with the cells p promises of its answer a.
pub record HeightPromise (numbers tool : Bool) (ix : Index) (marks : List ℕ) (stamp : ℕ) (p : Patch) (a : Answer) : Type 0 where
  pub accepted : GoodAccepted numbers tool ix marks stamp a.refusal
  pub looked : BuiltFrom ix → a.refusal ≡ 0 → LookedAll ix p (looked_in ix marks stamp p) a.count
