-- Document 01, "Mesh, grid and marks": the walk. A walk is a list of triangle numbers; answer, count and marks follow from that list, and a triangle is looked
-- at as often as it stands there.
use Rattle.std.specs.Prelude.{Bool, true, false, cond, List, [], ◌∷◌, ◌++◌, ℕ, zero, suc, ◌+◌, ◌-◌, ◌*◌, eqb, length, get_or, set, replicate}
use Rattle.cells.specs.Cover.{stretch}

-- ---- the numbers of a question's cells

-- f a, f (a + 1), .. n of them, one after the other
unfoldable pub over : (ℕ → List ℕ) → ℕ → ℕ → List ℕ
over f a zero = []
over f a (suc n) = f a ++ over f (a + 1) n

-- The numbers of one cell: what is read of it, a stretch of the member table.
abbrev pub cell : List ℕ → List ℕ → ℕ → List ℕ
cell = stretch

-- Those of row y, from column x0 up to x1. Cell number is y * columns + x.
abbrev pub row : List ℕ → List ℕ → ℕ → ℕ → ℕ → ℕ → List ℕ
row starts members columns x0 x1 y = over (λ x. cell starts members (y * columns + x)) x0 (x1 - x0)

-- Those of the rows from y0 up to y1: rows, then columns, then members.
abbrev pub block : List ℕ → List ℕ → ℕ → ℕ → ℕ → ℕ → ℕ → List ℕ
block starts members columns x0 x1 y0 y1 = over (row starts members columns x0 x1) y0 (y1 - y0)

-- ---- the triangles looked at

-- Of the numbers ms, in order, skipping a triangle whose mark equals the new stamp: one that was looked at has that mark from then on.
unfoldable pub looked : ℕ → List ℕ → List ℕ → List ℕ
looked stamp marks [] = []
looked stamp marks (i ∷ ms) =
    cond (eqb (get_or marks i 0) stamp) (looked stamp marks ms) (i ∷ looked stamp (set marks i stamp) ms)

-- The walk stops at the first blocker: the part of a list up to and with it.
unfoldable pub up_to : (ℕ → Bool) → List ℕ → List ℕ
up_to blocks [] = []
up_to blocks (i ∷ is) = i ∷ cond (blocks i) [] (up_to blocks is)

-- ---- what follows from them

-- Marks of looked_at triangles hold the new stamp; the others stay.
unfoldable pub marked : ℕ → List ℕ → List ℕ → List ℕ
marked stamp marks [] = marks
marked stamp marks (i ∷ is) = marked stamp (set marks i stamp) is

-- step (.. (step v a) ..) z over a list a .. z
unfoldable pub fold : {A : Type 0} → (A → ℕ → A) → A → List ℕ → A
fold step v [] = v
fold step v (i ∷ is) = fold step (step v i) is

-- whether none of a list blocks
unfoldable pub clear_of : (ℕ → Bool) → List ℕ → Bool
clear_of blocks [] = true
clear_of blocks (i ∷ is) = cond (blocks i) false (clear_of blocks is)

-- Where a walk stands: the marks, how many triangles it has looked at, and what it has found.
pub record Walk (A : Type 0) : Type 0 where
  pub marks : List ℕ
  pub count : ℕ
  pub value : A

-- What a walk that looks at the triangles is makes of where it stood.
abbrev pub gathered : {A : Type 0} → ℕ → (A → ℕ → A) → Walk A → List ℕ → Walk A
gathered stamp step w is =
    record { marks = marked stamp w.marks is; count = w.count + length is; value = fold step w.value is }

-- A walk over the numbers ms, whose step takes what was found and the next triangle.
unfoldable pub walked : {A : Type 0} → ℕ → (A → ℕ → A) → Walk A → List ℕ → Walk A
walked stamp step w ms = gathered stamp step w (looked stamp w.marks ms)

-- A walk over the numbers ms that stops at the first blocker. It finds whether the way is clear.
unfoldable pub chased : ℕ → (ℕ → Bool) → Walk Bool → List ℕ → Walk Bool
chased stamp blocks w ms =
    let is = up_to blocks (looked stamp w.marks ms) in
    record { marks = marked stamp w.marks is; count = w.count + length is; value = clear_of blocks is }

-- ---- the stamp

-- The stamp goes up by one at each walk; from 4294967295 it turns to 0, then all marks are wiped and it becomes 1.
unfoldable pub next_stamp : ℕ → ℕ
next_stamp stamp = cond (eqb stamp 4294967295) 1 (stamp + 1)

-- the marks that a walk begins with
unfoldable pub ready_marks : List ℕ → ℕ → List ℕ
ready_marks marks stamp = cond (eqb stamp 4294967295) (replicate (length marks) 0) marks
