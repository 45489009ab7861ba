-- A sound index passes what refusal 7 tests.
use mathlib.Core.Bool.{Bool, true}
use mathlib.Core.List.{List}
use mathlib.Core.Path.{◌≡◌}
use Prim.Native.Nat.{ℕ, ◌+◌, ◌*◌, ◌/◌, ◌≤◌, ◌<◌}
use native.Mathlib.Omega.{arith}
use borrow.Author.Tests.{eq-eqb, le-leb, lt-ltb}
use lib.Dec.{lit<}
use lib.Ieee.{Float}
use lib.ListN.{length, get_or}
use Rattle.numbers.specs.Reals.{num}
use Rattle.plane.specs.Mesh.{triangle_of, lowest, highest, top_of, bounds_of}
use Rattle.plane.specs.Ranges.{is_coordinate}
use Rattle.spans.specs.Mesh.{box_of}
use Rattle.order.proofs.Extremes.{min_either, either_of}
use Rattle.grid.specs.Boxes.{is_boxed}
use Rattle.grid.specs.Index.{Index, SoundIndex}
use Rattle.header.specs.Head.{head_usable}
use Rattle.header.proofs.Ranges.{in-ranges-is}
use Rattle.query.specs.declared.Patch.{Patch}
use Rattle.query.specs.Asked.{is_marked, NoneAbove}
use Rattle.query.specs.Usable.{corners_usable, are_coordinates, box_usable, triangle_usable, member_usable, cell_usable, usable}
use Rattle.rules.proofs.Testing.{every_all}
use Rattle.query.proofs.Stretches.{cell_stands, cells_pass}

-- the lowest and the highest of three coordinates are
low : (a b c : Float) → is_coordinate a ≡ true → is_coordinate b ≡ true → is_coordinate c ≡ true → is_coordinate (lowest a b c) ≡ true
unfolding lowest
low a b c p q r = min_either (λ v. is_coordinate v ≡ true) _ c (min_either (λ v. is_coordinate v ≡ true) a b p q) r

high : (a b c : Float) → is_coordinate a ≡ true → is_coordinate b ≡ true → is_coordinate c ≡ true → is_coordinate (highest a b c) ≡ true
unfolding highest
high a b c p q r = either_of (λ v. is_coordinate v ≡ true) _ c (either_of (λ v. is_coordinate v ≡ true) a b p q) r

module _ (ix : Index) (d : SoundIndex ix) where
  pub sound_head : head_usable ix.mesh ix.header ix.starts ≡ true
  unfolding head_usable
  sound_head = rw (d.ranges, eq-eqb _ _ d.nine, le-leb _ _ d.room)

  pub sound_boxed : is_boxed ix.mesh ix.boxes ≡ true
  unfolding is_boxed
  sound_boxed = eq-eqb (length ix.boxes) (length ix.mesh / 9 * 5) (omega (arith, d.nine, d.five))

  -- each number of a triangle's box is one of the triangle's
  box_good : (i : ℕ) → i < ix.header.n → box_usable (box_of ix.mesh i) ≡ true
  unfolding box_usable are_coordinates box_of bounds_of triangle_of top_of
  box_good i l =
      let g : (k : ℕ) → k < 9 → is_coordinate (num ix.mesh (9 * i + k)) ≡ true = λ k h. d.numbers (9 * i + k) (omega (arith, d.nine)) in
      let z : is_coordinate (num ix.mesh (9 * i)) ≡ true = d.numbers (9 * i) (omega (arith, d.nine)) in
      rw (
        low _ _ _ z (g 3 (lit< tt)) (g 6 (lit< tt)),
        low _ _ _ (g 1 (lit< tt)) (g 4 (lit< tt)) (g 7 (lit< tt)),
        high _ _ _ z (g 3 (lit< tt)) (g 6 (lit< tt)),
        high _ _ _ (g 1 (lit< tt)) (g 4 (lit< tt)) (g 7 (lit< tt)),
        high _ _ _ (g 2 (lit< tt)) (g 5 (lit< tt)) (g 8 (lit< tt)),
      )

  pub sound_triangle : (i : ℕ) → i < ix.header.n → triangle_usable ix.mesh ix.boxes i ≡ true
  unfolding triangle_usable corners_usable
  sound_triangle i l =
      rw (every_all (λ k. is_coordinate (num ix.mesh k)) (9 * i) 9 (λ k a b. d.numbers k (omega (arith, d.nine))), d.boxed i l, box_good i l)

  -- every cell of the grid, for a test that each triangle passes
  pub sound_cell : (test : ℕ → Bool) → ((i : ℕ) → i < ix.header.n → test i ≡ true) → (c : ℕ) → c < ix.header.rows * ix.header.columns
      → cell_usable test ix.starts ix.members c ≡ true
  sound_cell test f c h = cell_stands test ix.starts ix.members c (d.rise c h) (d.within c h) (λ k l. f _ (d.below c k h l))

  -- a question whose marks are not above the stamp
  module _ (marks : List ℕ) (stamp : ℕ) (same : length marks ≡ ix.header.n) (low : NoneAbove stamp marks) where
    member_passes : (i : ℕ) → i < ix.header.n → member_usable ix.mesh ix.boxes ix.header.n marks stamp i ≡ true
    unfolding member_usable
    member_passes i l = rw (lt-ltb i ix.header.n l, sound_triangle i l, le-leb (get_or marks i 0) stamp (low i (omega arith)))

    pub sound_usable : (p : Patch) → p.x1 ≤ ix.header.columns → p.y1 ≤ ix.header.rows → usable ix marks stamp p ≡ true
    unfolding usable
    sound_usable p right top =
        let test = member_usable ix.mesh ix.boxes ix.header.n marks stamp in
        rw (sound_head, cells_pass test ix.starts ix.members ix.header.columns p ix.header.rows (sound_cell test member_passes) right top)

    pub sound_marked : is_marked ix.mesh marks ≡ true
    unfolding is_marked
    sound_marked = rw (
      le-leb (length marks) 65536 (omega (arith, (in-ranges-is ix.header d.ranges).few)),
      eq-eqb (length ix.mesh) (length marks * 9) (omega (arith, d.nine)),
    )
