-- What the parts of the sort promise each other. In a heap, entry p stands over the entries 2 * p + 1 and 2 * p + 2, and neither of them comes after it.
use Rattle.std.specs.Prelude.{Bool, true, false, cond, List, ◌≡◌, ℕ, ◌+◌, ◌*◌, ◌≤◌, ◌<◌, ltb, length, get_or, set}
use Rattle.rules.specs.Every.{times}

-- The first e entries rearranged: no number is lost, what holds of each of them still does, and the others stay.
pub record Rearranged (e : ℕ) (l l' : List ℕ) : Type 0 where
  pub size : length l' ≡ length l
  pub same : (x : ℕ) → times x l' ≡ times x l
  pub inside : (P : ℕ → Bool) → ((p : ℕ) → p < e → P (get_or l p 0) ≡ true) → (p : ℕ) → p < e → P (get_or l' p 0) ≡ true
  pub rest : (p : ℕ) → e ≤ p → get_or l' p 0 ≡ get_or l p 0

-- Two entries swapped.
abbrev pub swapped : List ℕ → ℕ → ℕ → List ℕ
swapped l a b = set (set l a (get_or l b 0)) b (get_or l a 0)

-- The first e entries, from entry r on, are a heap: none comes before what stands under it.
abbrev pub Heap : (ℕ → ℕ → Bool) → ℕ → ℕ → List ℕ → Type 0
Heap less r e l = (p j : ℕ) → r ≤ p → 2 * p < j → j ≤ 2 * p + 2 → j < e → less (get_or l p 0) (get_or l j 0) ≡ false

-- The first e entries are numbers of triangles of the mesh, which has n.
pub record Within (n e : ℕ) (l : List ℕ) : Type 0 where
  pub table : e ≤ length l
  pub numbers : (p : ℕ) → p < e → ltb (get_or l p 0) n ≡ true

-- Of the entries c and c + 1 below e, the one that comes later.
unfoldable pub later_of : (ℕ → ℕ → Bool) → List ℕ → ℕ → ℕ → ℕ
later_of less l c e = cond (ltb (c + 1) e) (cond (less (get_or l c 0) (get_or l (c + 1) 0)) (c + 1) c) c
