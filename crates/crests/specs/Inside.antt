-- What the parts of a walk that passes over low cells promise each other; no answer is defined here.
use Rattle.std.specs.Prelude.{true, List, [], ◌++◌, ◌⊎◌, ◌≡◌, ℕ, ◌+◌, ◌*◌, ◌/◌, ◌%◌, ◌≤◌, ◌<◌, Float, length, get_or}
use Rattle.std.specs.Float.Ieee.{lt, le}
use Rattle.numbers.specs.Reals.{num}
use Rattle.plane.specs.declared.Best.{Best}
use Rattle.walk.specs.Walk.{Walk, cell, fold}
use Rattle.walk.specs.Inside.{unmarked}
use Rattle.grid.specs.Boxes.{box_at}

-- The place of cell c in a table of crests: two cells side by side share one.
unfoldable pub place_of : ℕ → ℕ
place_of c = c / 2 % 8192

-- What is at least the crest is at least the top.
abbrev pub Caps : Float → Float → Type 0
Caps crest top = (v : Float) → le crest v ≡ true → le top v ≡ true

-- The same of the tops of all triangles of a list.
abbrev pub CapsAll : List Float → Float → List ℕ → Type 0
CapsAll boxes crest ms = (k : ℕ) → k < length ms → Caps crest (box_at boxes (get_or ms k 0)).top

-- The boxes of all triangles of a list stand in the box table.
abbrev pub Boxed : List Float → List ℕ → Type 0
Boxed boxes ms = (k : ℕ) → k < length ms → 5 * get_or ms k 0 + 5 ≤ length boxes

-- Every entry of a table caps what it was in another.
abbrev pub CapsOld : List Float → List Float → Type 0
CapsOld new old = (j : ℕ) → Caps (num new j) (num old j)

-- No mark is above the stamp.
abbrev pub NoneAbove : ℕ → List ℕ → Type 0
NoneAbove stamp marks = (i : ℕ) → get_or marks i 0 ≤ stamp

-- A table of crests: that of each cell's place is at least the tops of the cell's triangles.
pub record Crested (starts members : List ℕ) (boxes : List Float) (columns rows : ℕ) (crests : List Float) : Type 0 where
  pub size : length crests ≡ 8192
  pub over : (x y : ℕ) → x < columns → y < rows → CapsAll boxes (num crests (place_of (y * columns + x))) (cell starts members (y * columns + x))

-- Marks of a walk under way: none is above the stamp, and a triangle that has the stamp would change nothing if it were looked at again.
pub record Fair (stamp : ℕ) (step : Best → ℕ → Best) (w : Walk Best) : Type 0 where
  pub settled : (i : ℕ) → get_or w.marks i 0 ≡ stamp → step w.value i ≡ w.value
  pub below : (i : ℕ) → get_or w.marks i 0 ≤ stamp

-- From w a walk came to w', with the best that the triangles of a list give one after the other.
pub record Goes (stamp : ℕ) (step : Best → ℕ → Best) (w : Walk Best) (ms : List ℕ) (w' : Walk Best) : Type 0 where
  pub value : w'.value ≡ fold step w.value ms
  pub fair : Fair stamp step w'
  pub size : length w'.marks ≡ length w.marks
  pub room : w'.count + unmarked stamp w'.marks ≡ w.count + unmarked stamp w.marks

-- The best v is that of a first part of a list, which is all of it, or v is above the limit.
pub record Passed (step : Best → ℕ → Best) (first : Best) (all : List ℕ) (limit : Float) (v : Best) : Type 0 where
  pub front : List ℕ
  pub rest : List ℕ
  pub whole : all ≡ front ++ rest
  pub value : v ≡ fold step first front
  pub why : (rest ≡ []) ⊎ (lt limit v.height ≡ true)
