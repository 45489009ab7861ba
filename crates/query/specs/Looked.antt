-- Demand 3 of the letter, first half: which triangles a walk looks at.
use Rattle.std.specs.Prelude.{Bool, true, List, ◌≡◌, ℕ, ◌+◌, ◌*◌, ◌≤◌, ◌<◌, length}
use Rattle.cells.specs.Cover.{Cover}
use Rattle.rules.specs.Every.{times}
use Rattle.walk.specs.Walk.{block, looked, next_stamp, ready_marks}
use Rattle.grid.specs.Index.{Index, covers_of, SoundIndex}
use Rattle.query.specs.declared.Patch.{Patch}
use Rattle.query.specs.Asked.{NoneAbove}

-- The numbers that stand in the cells p of an index.
abbrev pub within : Index → Patch → List ℕ
within ix p = block ix.starts ix.members ix.header.columns p.x0 p.x1 p.y0 p.y1

-- The list of triangle numbers that a question with the cells p looks at, where nothing stops it.
unfoldable pub looked_in : Index → List ℕ → ℕ → Patch → List ℕ
looked_in ix marks stamp p = looked (next_stamp stamp) (ready_marks marks stamp) (within ix p)

-- Triangle i of n shares a grid cell with the question: the cell in column x of row y is one of the question's and one that
-- the triangle covers. `on` says which triangle covers which cell.
pub record SharesCell (on : Cover) (n columns : ℕ) (p : Patch) (i : ℕ) : Type 0 where
  pub triangle : i < n
  pub x : ℕ
  pub y : ℕ
  pub column : (p.x0 ≤ x) × (x < p.x1)
  pub row : (p.y0 ≤ y) × (y < p.y1)
  pub covers : on i (y * columns + x) ≡ true

abbrev pub Shares : Index → Patch → ℕ → Type 0
Shares ix p i = SharesCell (covers_of ix) ix.header.n ix.header.columns p i

-- The list `is` holds each triangle of which `shares` holds exactly once, and no other.
pub record EachOnce (shares : ℕ → Type 0) (is : List ℕ) : Type 0 where
  pub each : (i : ℕ) → shares i → times i is ≡ 1
  pub no_other : (i : ℕ) → (shares i → ⊥) → times i is ≡ 0

-- It holds each triangle sharing a grid cell with the question exactly once, and no other.
abbrev pub LooksOnce : Index → Patch → List ℕ → Type 0
LooksOnce ix p is = EachOnce (Shares ix p) is

-- What refusal 7's test r of a question with the cells p promises over a sound index: a question with a mark for each
-- triangle and none above the stamp passes, and one that passes looks at each triangle sharing a grid cell with it exactly
-- once, and at no other.
pub record UsablePromise (ix : Index) (marks : List ℕ) (stamp : ℕ) (p : Patch) (r : Bool) : Type 0 where
  pub passes : SoundIndex ix → length marks ≡ ix.header.n → NoneAbove stamp marks → r ≡ true
  pub looks : SoundIndex ix → r ≡ true → LooksOnce ix p (looked_in ix marks stamp p)
