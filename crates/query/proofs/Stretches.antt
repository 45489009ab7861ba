-- The question's cells, for any test of a member: what each may rely on that passed, and that they pass where each of their members does.
use mathlib.Core.Bool.{Bool, true, ◌&&◌}
use mathlib.Core.List.{List}
use mathlib.Core.Path.{◌≡◌}
use Prim.Native.Nat.{ℕ, ◌+◌, ◌-◌, ◌*◌, ◌≤◌, ◌<◌}
use native.Mathlib.Nat.{mul-le-mul_right}
use native.Mathlib.Omega.{arith}
use borrow.Author.Tests.{leb-true, le-leb}
use lib.Dec.{leb}
use lib.ListN.{length, get_or}
use Rattle.rules.proofs.Branches.{both_true}
use Rattle.walk.specs.Walk.{cell}
use Rattle.walk.specs.Inside.{Walkable}
use Rattle.query.specs.declared.Patch.{Patch}
use Rattle.rules.specs.Every.{each}
use Rattle.query.specs.Usable.{cell_usable, row_usable, cells_usable}
use Rattle.rules.proofs.Testing.{in_rows, every_at, each_at, every_all, each_all}

-- ---- a cell
record Passes (test : ℕ → Bool) (starts members : List ℕ) (c : ℕ) : Type 0 where
  rises : get_or starts c 0 ≤ get_or starts (c + 1) 0
  within : get_or starts (c + 1) 0 ≤ length members
  each_one : (k : ℕ) → k < length (cell starts members c) → test (get_or (cell starts members c) k 0) ≡ true

cell_passes : (test : ℕ → Bool) (starts members : List ℕ) (c : ℕ) → cell_usable test starts members c ≡ true → Passes test starts members c
unfolding cell_usable
cell_passes test starts members c e =
    let u = both_true (leb (get_or starts c 0) (get_or starts (c + 1) 0)) (leb (get_or starts (c + 1) 0) (length members) && each test (cell starts members c)) e in
    let v = both_true (leb (get_or starts (c + 1) 0) (length members)) (each test (cell starts members c)) u.1 in
    record { rises = leb-true _ _ u.0; within = leb-true _ _ v.0; each_one = λ k l. each_at test (cell starts members c) k v.1 l }

pub cell_stands : (test : ℕ → Bool) (starts members : List ℕ) (c : ℕ) → get_or starts c 0 ≤ get_or starts (c + 1) 0 → get_or starts (c + 1) 0 ≤ length members
    → ((k : ℕ) → k < length (cell starts members c) → test (get_or (cell starts members c) k 0) ≡ true) → cell_usable test starts members c ≡ true
unfolding cell_usable
cell_stands test starts members c a b f = rw (le-leb _ _ a, le-leb _ _ b, each_all test (cell starts members c) f)

-- ---- all of a question's cells
module _ (test : ℕ → Bool) (starts members : List ℕ) (columns : ℕ) (p : Patch) where
  pub cells_pass : (rows : ℕ) → ((c : ℕ) → c < rows * columns → cell_usable test starts members c ≡ true) → p.x1 ≤ columns → p.y1 ≤ rows
      → cells_usable test starts members columns p ≡ true
  unfolding cells_usable row_usable
  cells_pass rows f right top =
      every_all (row_usable test starts members columns p.x0 p.x1) p.y0 (p.y1 - p.y0)
      (λ y a b.
      every_all (λ x. cell_usable test starts members (y * columns + x)) p.x0 (p.x1 - p.x0)
      (λ x e g. f (y * columns + x) (omega (arith, in_rows columns (x + 1) y rows (omega arith) (omega arith)))))

  module _ (e : cells_usable test starts members columns p ≡ true) where
    usable_cell : (x y : ℕ) → p.x0 ≤ x → x < p.x1 → p.y0 ≤ y → y < p.y1 → Passes test starts members (y * columns + x)
    unfolding cells_usable row_usable
    usable_cell x y a b c d =
        cell_passes test starts members (y * columns + x)
        (every_at (λ k. cell_usable test starts members (y * columns + k)) p.x0 (p.x1 - p.x0) x
        (every_at (row_usable test starts members columns p.x0 p.x1) p.y0 (p.y1 - p.y0) y e c (omega arith)) a (omega arith))

    -- each member of each of them
    pub usable_each : (x y k : ℕ) → p.x0 ≤ x → x < p.x1 → p.y0 ≤ y → y < p.y1 → k < length (cell starts members (y * columns + x))
        → test (get_or (cell starts members (y * columns + x)) k 0) ≡ true
    usable_each x y k a b c d l = (usable_cell x y a b c d).each_one k l

    pub walkable_cells : (n rows : ℕ) → ((i : ℕ) → test i ≡ true → i < n) → rows * columns + 1 ≤ length starts → p.x1 ≤ columns → p.y1 ≤ rows
        → Walkable starts members n columns p.x0 p.x1 p.y0 p.y1
    walkable_cells n rows below room right top =
        record {
          stretch = λ x y a b c d.
              let u = usable_cell x y a b c d in
              record {
                inside = omega (arith, in_rows columns p.x1 y p.y1 right d, mul-le-mul_right {m = p.y1} {n = rows} columns top, room);
                rises = u.rises;
                within = u.within;
              };
          below = λ x y a b c d k l. below _ (usable_each x y k a b c d l);
        }
