-- What the parts of a question's code promise each other: a walk as the code goes, one member after the other, and what that asks of the tables.
use Rattle.std.specs.Prelude.{Bool, not, cond, List, [], ◌∷◌, ◌≡◌, ℕ, ◌+◌, ◌*◌, ◌^◌, ◌≤◌, ◌<◌, eqb, length, get_or, set, take}
use Rattle.walk.specs.Walk.{Walk, cell, looked}
use Rattle.walk.specs.declared.Seen.{Seen}
use Rattle.walk.specs.declared.Verdict.{Verdict}

-- a question with these marks, where it stands; and a chord question
abbrev pub seen : {B : Type 0} → List ℕ → Seen B → Walk B
seen m s = record { marks = m; count = s.count; value = s.best }

abbrev pub judged : List ℕ → Verdict → Walk Bool
judged m v = record { marks = m; count = v.count; value = v.clear }

-- triangle i is looked at, and its mark holds the stamp from then on
abbrev pub struck : {A : Type 0} → ℕ → (A → ℕ → A) → Walk A → ℕ → Walk A
struck stamp step w i = record { marks = set w.marks i stamp; count = w.count + 1; value = step w.value i }

-- member i: skipped where its mark equals the stamp
unfoldable pub look : {A : Type 0} → ℕ → (A → ℕ → A) → Walk A → ℕ → Walk A
look stamp step w i = cond (eqb (get_or w.marks i 0) stamp) w (struck stamp step w i)

-- the same of a walk that stops at a blocker: once the way is not clear, nothing changes
unfoldable pub strike : ℕ → (ℕ → Bool) → Walk Bool → ℕ → Walk Bool
strike stamp blocks w i = cond w.value (look stamp (λ _ k. not (blocks k)) w i) w

-- how many marks are not the stamp
unfoldable pub unmarked : ℕ → List ℕ → ℕ
unmarked stamp [] = 0
unmarked stamp (m ∷ ms) = cond (eqb m stamp) 0 1 + unmarked stamp ms

-- every number of ms is below n
abbrev pub Below : ℕ → List ℕ → Type 0
Below n ms = (k : ℕ) → k < length ms → get_or ms k 0 < n

-- the tables have the numbers of triangle i: nine of a mesh, five of a box table
abbrev pub Tabled : {A B : Type 0} → List A → List B → ℕ → Type 0
Tabled mesh boxes i = (9 * i + 9 ≤ length mesh) × (5 * i + 5 ≤ length boxes)

-- each number below n has what `fits` asks
abbrev pub FitsAll : (ℕ → Type 0) → ℕ → Type 0
FitsAll fits n = (i : ℕ) → i < n → fits i

-- the count has room for the triangles that are left
abbrev pub Room : {A : Type 0} → ℕ → Walk A → Type 0
Room stamp w = w.count + unmarked stamp w.marks < 2 ^ 32

-- the stretch of cell c lies in the member table
pub record Stretch (starts members : List ℕ) (c : ℕ) : Type 0 where
  pub inside : c + 1 < length starts
  pub rises : get_or starts c 0 ≤ get_or starts (c + 1) 0
  pub within : get_or starts (c + 1) 0 ≤ length members

-- the cells of columns x0 up to x1 of rows y0 up to y1 can be walked: each stretch lies in the member table, and its numbers are below n
pub record Walkable (starts members : List ℕ) (n columns x0 x1 y0 y1 : ℕ) : Type 0 where
  pub stretch : (x y : ℕ) → x0 ≤ x → x < x1 → y0 ≤ y → y < y1 → Stretch starts members (y * columns + x)
  pub below : (x y : ℕ) → x0 ≤ x → x < x1 → y0 ≤ y → y < y1 → Below n (cell starts members (y * columns + x))

-- the first `count` numbers of `list` stand for the numbers `all`: each is below n, and over n marks a walk looks at what it looks at over all
pub record StandsFor (n : ℕ) (all list : List ℕ) (count : ℕ) : Type 0 where
  pub held : count ≤ length list
  pub below : Below n (take count list)
  pub same : (stamp : ℕ) (marks : List ℕ) → length marks ≡ n → looked stamp marks (take count list) ≡ looked stamp marks all
