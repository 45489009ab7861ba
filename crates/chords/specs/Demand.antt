-- What a chord question promises over the index built from its mesh: a good question is accepted, and demand 3 of the
-- letter, first half: which triangles its verdict has looked at.
use Rattle.std.specs.Prelude.{Bool, false, List, ◌≡◌, ℕ, length}
use Rattle.walk.specs.Walk.{up_to}
use Rattle.grid.specs.Index.{Index, BuiltFrom}
use Rattle.query.specs.declared.Patch.{Patch}
use Rattle.query.specs.Looked.{looked_in}
use Rattle.ask.specs.Ask.{Ruling}
use Rattle.ask.specs.Ask.{Clear, Blocked}
use Rattle.ask.specs.Demand.{GoodAccepted, LookedAll}

-- A verdict a of a walk over the list `is`, which ends at its first blocker: where it is clear, the walked part is the
-- whole list; where it is blocked, the count is that of the walked part, which ends with the blocker.
pub record LookedTo (ix : Index) (p : Patch) (is : List ℕ) (early : Bool) (blocks : ℕ → Bool) (a : Ruling) : Type 0 where
  pub clear : a.finding ≡ Clear → (up_to blocks is ≡ is) × LookedAll ix p (up_to blocks is) a.count
  pub blocked : a.finding ≡ Blocked → early ≡ false → a.count ≡ length (up_to blocks is)

-- What a chord question with the cells p promises of its verdict a.
pub record ChordPromise (numbers tool early : Bool) (blocks : ℕ → Bool) (ix : Index) (marks : List ℕ) (stamp : ℕ) (p : Patch) (a : Ruling) : Type 0 where
  pub accepted : GoodAccepted numbers tool ix marks stamp a.refusal
  pub looked : BuiltFrom ix → a.refusal ≡ 0 → LookedTo ix p (looked_in ix marks stamp p) early blocks a
