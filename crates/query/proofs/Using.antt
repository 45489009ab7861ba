-- What a question may rely on that refusal 7 let pass.
use mathlib.Core.Bool.{Bool, true, ◌&&◌}
use mathlib.Core.List.{List}
use mathlib.Core.Path.{◌≡◌}
use Prim.Native.Nat.{ℕ, ◌+◌, ◌*◌, ◌≤◌, ◌<◌}
use native.Mathlib.Nat.{mul-le-mul_right}
use native.Mathlib.Omega.{arith}
use borrow.Author.Tests.{ltb-true, leb-true}
use lib.Dec.{ltb, leb}
use lib.Ieee.{Float}
use lib.ListN.{length, get_or}
use Rattle.numbers.specs.Reals.{num}
use Rattle.rules.proofs.Branches.{both_true}
use Rattle.plane.specs.Ranges.{is_coordinate}
use Rattle.grid.specs.declared.Header.{Header}
use Rattle.grid.specs.Boxes.{box_at}
use Rattle.grid.specs.Index.{Index}
use Rattle.header.specs.Head.{head_usable}
use Rattle.header.proofs.Ranges.{Headed, headed_is}
use Rattle.walk.specs.Walk.{cell}
use Rattle.walk.specs.Inside.{Walkable}
use Rattle.query.specs.declared.Patch.{Patch}
use Rattle.query.specs.Usable.{corners_usable, box_usable, triangle_usable, member_usable, cells_usable, usable}
use Rattle.rules.proofs.Testing.{every_at}
use Rattle.query.proofs.Stretches.{usable_each, walkable_cells}

-- room in starts for the rows of a grid
pub rows_room : (mesh : List Float) (h : Header) (starts : List ℕ) (y : ℕ) → Headed mesh h starts → y ≤ h.rows → y * h.columns < length starts
rows_room mesh h starts y d l = omega (arith, mul-le-mul_right {m = y} {n = h.rows} h.columns l, d.room)

-- a member that can be looked at
pub record Member (mesh boxes : List Float) (n : ℕ) (marks : List ℕ) (stamp i : ℕ) : Type 0 where
  pub below : i < n
  pub numbers : (k : ℕ) → 9 * i ≤ k → k < 9 * i + 9 → is_coordinate (num mesh k) ≡ true
  pub mark : get_or marks i 0 ≤ stamp

member_is : (mesh boxes : List Float) (n : ℕ) (marks : List ℕ) (stamp i : ℕ) → member_usable mesh boxes n marks stamp i ≡ true
    → Member mesh boxes n marks stamp i
unfolding member_usable triangle_usable corners_usable
member_is mesh boxes n marks stamp i e =
    let a = both_true (ltb i n) (triangle_usable mesh boxes i && leb (get_or marks i 0) stamp) e in
    let b = both_true (triangle_usable mesh boxes i) (leb (get_or marks i 0) stamp) a.1 in
    let c = both_true (corners_usable mesh i) (box_usable (box_at boxes i)) b.0 in
    record {
      below = ltb-true i n a.0;
      numbers = λ k. every_at (λ m. is_coordinate (num mesh m)) (9 * i) 9 k c.0;
      mark =
          leb-true (get_or marks i 0) stamp b.1;
    }

module _ (ix : Index) (marks : List ℕ) (stamp : ℕ) (p : Patch) (e : usable ix marks stamp p ≡ true) where
  abbrev test : ℕ → Bool
  test = member_usable ix.mesh ix.boxes ix.header.n marks stamp

  parts : (head_usable ix.mesh ix.header ix.starts ≡ true) × (cells_usable test ix.starts ix.members ix.header.columns p ≡ true)
  unfolding usable
  parts = both_true (head_usable ix.mesh ix.header ix.starts) (cells_usable test ix.starts ix.members ix.header.columns p) e

  pub usable_head : Headed ix.mesh ix.header ix.starts
  usable_head = headed_is ix.mesh ix.header ix.starts parts.0

  -- each member of each of the question's cells
  pub usable_member : (x y k : ℕ) → p.x0 ≤ x → x < p.x1 → p.y0 ≤ y → y < p.y1 → k < length (cell ix.starts ix.members (y * ix.header.columns + x))
      → Member ix.mesh ix.boxes ix.header.n marks stamp (get_or (cell ix.starts ix.members (y * ix.header.columns + x)) k 0)
  usable_member x y k a b c d l =
      member_is ix.mesh ix.boxes ix.header.n marks stamp _
      (usable_each test ix.starts ix.members ix.header.columns p parts.1 x y k a b c d l)

  pub walkable : p.x1 ≤ ix.header.columns → p.y1 ≤ ix.header.rows
      → Walkable ix.starts ix.members ix.header.n ix.header.columns p.x0 p.x1 p.y0 p.y1
  walkable =
      walkable_cells test ix.starts ix.members ix.header.columns p parts.1 ix.header.n ix.header.rows
      (λ i t. (member_is ix.mesh ix.boxes ix.header.n marks stamp i t).below) usable_head.room
