-- What a plan may rely on that refusal 7 let pass: every question over the mesh can be walked.
use mathlib.Core.Bool.{Bool, true, ◌&&◌}
use mathlib.Core.Path.{◌≡◌}
use Prim.Native.Nat.{ℕ, ◌+◌, ◌*◌, ◌≤◌, ◌<◌}
use native.Mathlib.Omega.{arith}
use borrow.Author.Tests.{ltb-true, leb-true, lt-ltb}
use lib.Dec.{ltb, leb}
use lib.ListN.{length, get_or}
use Rattle.rules.proofs.Branches.{both_true}
use Rattle.grid.specs.Index.{Index, SoundIndex}
use Rattle.header.specs.Head.{head_usable}
use Rattle.header.proofs.Ranges.{Headed, headed_is}
use Rattle.walk.specs.Walk.{cell}
use Rattle.walk.specs.Inside.{Walkable}
use Rattle.rules.specs.Every.{every, each}
use Rattle.query.specs.Usable.{triangle_usable, cell_usable, usable_whole}
use Rattle.rules.proofs.Testing.{in_rows, every_at, each_at, every_all}
use Rattle.query.proofs.Passing.{sound_head, sound_triangle, sound_cell}

module _ (ix : Index) (e : usable_whole ix ≡ true) where
  abbrev test : ℕ → Bool
  test i = ltb i ix.header.n

  abbrev tables : Bool
  tables = every (cell_usable test ix.starts ix.members) 0 (ix.header.rows * ix.header.columns)

  parts : (head_usable ix.mesh ix.header ix.starts ≡ true) × ((every (triangle_usable ix.mesh ix.boxes) 0 ix.header.n && tables) ≡ true)
  unfolding usable_whole
  parts = both_true (head_usable ix.mesh ix.header ix.starts) (every (triangle_usable ix.mesh ix.boxes) 0 ix.header.n && tables) e

  pub whole_head : Headed ix.mesh ix.header ix.starts
  whole_head = headed_is ix.mesh ix.header ix.starts parts.0

  -- the cells of any patch of the grid can be walked
  pub whole_walkable : (x0 x1 y0 y1 : ℕ) → x1 ≤ ix.header.columns → y1 ≤ ix.header.rows
      → Walkable ix.starts ix.members ix.header.n ix.header.columns x0 x1 y0 y1
  unfolding cell_usable
  whole_walkable x0 x1 y0 y1 right top =
      record {
        stretch = λ x y a b c d.
            let i : ℕ = y * ix.header.columns + x in
            let u = both_true (leb (get_or ix.starts i 0) (get_or ix.starts (i + 1) 0))
            (leb (get_or ix.starts (i + 1) 0) (length ix.members) && each test (cell ix.starts ix.members i)) (at x y b d) in
            let v = both_true (leb (get_or ix.starts (i + 1) 0) (length ix.members)) (each test (cell ix.starts ix.members i)) u.1 in
            record { inside = omega (arith, below x y b d, whole_head.room); rises = leb-true _ _ u.0; within = leb-true _ _ v.0 };
        below = λ x y a b c d k l.
            let i : ℕ = y * ix.header.columns + x in
            let u = both_true (leb (get_or ix.starts i 0) (get_or ix.starts (i + 1) 0))
            (leb (get_or ix.starts (i + 1) 0) (length ix.members) && each test (cell ix.starts ix.members i)) (at x y b d) in
            let v = both_true (leb (get_or ix.starts (i + 1) 0) (length ix.members)) (each test (cell ix.starts ix.members i)) u.1 in
            ltb-true _ _ (each_at test (cell ix.starts ix.members i) k v.1 l);
      }
    where
      below : (x y : ℕ) → x < x1 → y < y1 → y * ix.header.columns + x < ix.header.rows * ix.header.columns
      below x y b d = omega (arith, in_rows ix.header.columns (x + 1) y ix.header.rows (omega arith) (omega arith))

      at : (x y : ℕ) → x < x1 → y < y1 → cell_usable test ix.starts ix.members (y * ix.header.columns + x) ≡ true
      at x y b d =
          every_at (cell_usable test ix.starts ix.members) 0 (ix.header.rows * ix.header.columns) (y * ix.header.columns + x)
          (both_true (every (triangle_usable ix.mesh ix.boxes) 0 ix.header.n) tables parts.1).1 (omega arith) (omega (arith, below x y b d))

-- a sound index passes
pub sound_whole : (ix : Index) → SoundIndex ix → usable_whole ix ≡ true
unfolding usable_whole
sound_whole ix d =
    let triangles = every_all (triangle_usable ix.mesh ix.boxes) 0 ix.header.n (λ i a b. sound_triangle ix d i (omega arith)) in
    let cells = every_all (cell_usable (λ i. ltb i ix.header.n) ix.starts ix.members) 0 (ix.header.rows * ix.header.columns)
    (λ c a b. sound_cell ix d (λ i. ltb i ix.header.n) (λ i l. lt-ltb i ix.header.n l) c (omega arith)) in
    rw (sound_head ix d, triangles, cells)
