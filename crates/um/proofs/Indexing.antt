-- What an accepted build leaves is an index: header in its ranges, tables that a question passes, and each triangle in the grid.
use mathlib.Core.Bool.{true}
use mathlib.Core.List.{List}
use mathlib.Core.Path.{◌≡◌, refl, ap, sym, subst, subst⁻¹, ◌∙◌}
use Prim.Native.Nat.{ℕ, ◌+◌, ◌-◌, ◌*◌, ◌/◌, ◌^◌, ◌≤◌, ◌<◌}
use native.Mathlib.Nat.{mul-pos, zero-add}
use native.Mathlib.Omega.{arith}
use borrow.Author.Tests.{eqb-true, eqb-false, le-leb, eq-eqb}
use lib.Dec.{eqb}
use lib.IntN.{ℤ}
use lib.ListN.{length}
use lib.Pow.{pow_pos}
use Rattle.rules.proofs.Branches.{by_test}
use Rattle.rules.specs.Every.{is_from}
use Rattle.cells.specs.Cover.{starts_of, members_table}
use Rattle.cells.proofs.Reading.{cell_is, starts_room, starts_rise, starts_within}
use Rattle.grid.proofs.Accepting.{Passed}
use Rattle.micro.specs.Micro.{is_coordinate, number_at}
use Rattle.um.specs.declared.Extent.{Extent}
use Rattle.um.specs.declared.Grid.{Grid}
use Rattle.um.specs.Grid.{triangles_in, extent_of, cells_along, grid_of, size_of, cells_in, cover_of}
use Rattle.um.specs.Build.{Built, header_of, is_power, in_ranges, refused_by, accepted_with, Outcome, outcome, unless, filled_of, gridded, build_of}
use Rattle.um.specs.Index.{Index, index_of, BuiltFrom, SoundIndex, BuildPromise}
use Rattle.um.specs.Inside.{Gridded}
use Rattle.um.proofs.Places.{some}
use Rattle.um.proofs.Extents.{coordinate, inside, box_order, ranged, Whole, whole}
use Rattle.um.proofs.Accepting.{Accepted, accepted, Sized, sized, size_passes}

from : (a e k : ℕ) → a ≤ k → k ≤ e → is_from a e k ≡ true
unfolding is_from
from a e k h l = rw (le-leb a k h, le-leb k e l)

power_is : (cell k : ℕ) → k < 32 → cell ≡ 2 ^ k → is_power cell ≡ true
unfolding is_power
power_is cell k h e = some (λ j. eqb (2 ^ j) cell) 0 32 k h (rw zero-add (eq-eqb _ _ (sym e)))

module _ (mesh : List ℤ) (floor r : ℕ) (a : Accepted mesh floor r) where
  good : (k : ℕ) → k < triangles_in mesh * 9 → is_coordinate (number_at mesh k) ≡ true
  good k h = a.numbers k (omega (arith, a.nine))

  pub extremes : Whole (extent_of mesh (triangles_in mesh))
  extremes = whole mesh (triangles_in mesh) a.some good

  module _ (lent cell : ℕ) (z : Sized (extent_of mesh (triangles_in mesh)) lent cell) where
    pub positive : 0 < cell
    positive = rw z.is (pow_pos z.power)

    pub grid_gridded : Gridded mesh (triangles_in mesh) (grid_of (extent_of mesh (triangles_in mesh)) cell)
    unfolding grid_of
    grid_gridded =
        record {
          nine = omega (arith, a.nine);
          few = a.few;
          some = (omega arith, omega arith);
          wide = unfold grid_of in z.passes.wide;
          tall = unfold grid_of in z.passes.tall;
          size = positive;
          above = λ i h.
              let w = inside mesh (triangles_in mesh) i h in
              let o = box_order mesh i in
              record { left = w.left; right = omega (arith, w.left, o.0); bottom = w.bottom; top = omega (arith, w.bottom, o.1) };
        }

    grid_room : cells_in (grid_of (extent_of mesh (triangles_in mesh)) cell) + 1 ≤ lent
    grid_room = z.passes.room

    header_ranges : in_ranges (header_of (triangles_in mesh) (grid_of (extent_of mesh (triangles_in mesh)) cell) floor r) ≡ true
    unfolding in_ranges header_of grid_of
    header_ranges =
        let n = triangles_in mesh in
        let e = extent_of mesh n in
        let g = ranged mesh n good in
        let w = extremes in
        let p : Passed (cells_along e.left e.right cell) (cells_along e.bottom e.top cell) lent = unfold grid_of in z.passes in
        let e₁ : is_from 1 65536 n ≡ true = from 1 65536 n (omega (arith, a.some)) a.few in
        let e₂ : is_coordinate e.left ≡ true = coordinate e.left g.left (omega (arith, g.right, w.across)) in
        let e₃ : is_coordinate e.bottom ≡ true = coordinate e.bottom g.bottom (omega (arith, g.top, w.upward)) in
        let e₄ : is_from 1 65536 ((e.right - e.left) / cell + 1) ≡ true = from 1 65536 _ (omega arith) p.wide in
        let e₅ : is_from 1 65536 ((e.top - e.bottom) / cell + 1) ≡ true = from 1 65536 _ (omega arith) p.tall in
        let e₆ : is_from 1 1048576 (((e.top - e.bottom) / cell + 1) * ((e.right - e.left) / cell + 1)) ≡ true =
        from 1 1048576 _ (mul-pos {m = (e.top - e.bottom) / cell + 1} {n = (e.right - e.left) / cell + 1} (omega arith) (omega arith)) p.few in
        rw (e₁, e₂, e₃, a.bottom, a.radius, e₄, e₅, e₆, power_is cell z.power z.small z.is)

  -- the grid as the code found it
  pub found_gridded : (lent cell : ℕ) (e : Extent) (g : Grid) → e ≡ extent_of mesh (triangles_in mesh) → cell ≡ size_of e lent → (cell ≡ 0 → ⊥) → g ≡ grid_of e cell
      → Gridded mesh (triangles_in mesh) g × (cells_in g + 1 ≤ lent)
  found_gridded lent cell e g p q h f =
      let z = sized (extent_of mesh (triangles_in mesh)) lent cell (q ∙ ap (λ (x : Extent). size_of x lent) p) h in
      subst⁻¹ (λ (y : Grid). Gridded mesh (triangles_in mesh) y × (cells_in y + 1 ≤ lent)) (f ∙ ap (λ (x : Extent). grid_of x cell) p)
      (grid_gridded lent cell z, grid_room lent cell z)

  -- ---- both tables
  module _ (s m : List ℕ) (cell : ℕ) (z : Sized (extent_of mesh (triangles_in mesh)) (length s) cell) where
    abbrev the_grid : Grid
    the_grid = grid_of (extent_of mesh (triangles_in mesh)) cell

    sound : SoundIndex
        (index_of mesh (header_of (triangles_in mesh) the_grid floor r)
        (starts_of (cover_of mesh the_grid) (triangles_in mesh) (cells_in the_grid) s) (members_table (cover_of mesh the_grid) (triangles_in mesh) (cells_in the_grid) m))
    unfolding header_of
    sound =
        let g = the_grid in
        let n = triangles_in mesh in
        record {
          nine = a.nine;
          ranges = unfold header_of in header_ranges (length s) cell z;
          numbers = a.numbers;
          room = starts_room (cover_of mesh g) n (cells_in g) s m;
          rise = starts_rise (cover_of mesh g) n (cells_in g) s m;
          within = λ c h. starts_within (cover_of mesh g) n (cells_in g) s m (c + 1) (omega arith);
          cell = cell_is (cover_of mesh g) n (cells_in g) s m;
          grid = unfold grid_of in refl;
        }

-- ---- back from an answer that is no refusal
unless_then : (k p : ℕ) (s m : List ℕ) (next : Outcome) (Q : Outcome → Type 0) → (k ≡ 0 → next.built.refusal ≡ 0 → Q next)
    → (unless k p s m next).built.refusal ≡ 0 → Q (unless k p s m next)
unfolding unless refused_by
unless_then k p s m next Q f e =
    by_test (eqb k 0)
    (λ t. rw t (f (eqb-true k 0 t) (rw t at e)))
    (λ t. let g : k ≡ 0 → ⊥ = eqb-false k 0 t in absurd (g (rw t at e)))

module _ (mesh : List ℤ) (floor r : ℕ) (s m : List ℕ) where
  abbrev Left : Outcome → Type 0
  Left o = SoundIndex (index_of mesh o.built.header o.starts o.members) × (o.built ≡ accepted_with o.built.header)

  left_whole : (build_of mesh floor r s m).built.refusal ≡ 0 → Left (build_of mesh floor r s m)
  unfolding build_of gridded filled_of accepted_with
  left_whole =
      unless_then _ _ s m _ Left
      (λ x.
      unless_then _ _ s m _ Left
      (λ y.
      unless_then _ _ s m _ Left
      (λ z e. (sound mesh floor r (accepted mesh floor r x) s m _ (sized _ _ _ refl (size_passes _ y)), refl))))

  built_left_lem : (o : Outcome) → o ≡ build_of mesh floor r s m → o.built.refusal ≡ 0 → Left o
  built_left_lem o p = subst (λ (o : Outcome). o.built.refusal ≡ 0 → Left o) (sym p) left_whole

  pub build_promise : (b : Built) (s' m' : List ℕ) → outcome b s' m' ≡ build_of mesh floor r s m → BuildPromise (index_of mesh b.header s' m') b.refusal
  build_promise b s' m' e =
      record {
        built = λ z.
            record {
              floor = floor;
              r = r;
              old_starts = s;
              old_members = m;
              built = sym e
                  ∙ ap (λ (x : Built). outcome x s' m') (built_left_lem (outcome b s' m') e z).1;
            };
        sound = λ z. (built_left_lem (outcome b s' m') e z).0;
      }

-- the index that the builder makes of its mesh is sound
pub index_sound : (ix : Index) → BuiltFrom ix → SoundIndex ix
unfolding accepted_with
index_sound ix b =
    (built_left_lem ix.mesh b.floor b.r b.old_starts b.old_members
    (outcome (accepted_with ix.header) ix.starts ix.members) (sym b.built) refl).0
