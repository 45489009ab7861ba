-- What an accepted build leaves is an index: header in its ranges, tables that a question passes, and each triangle in the grid.
use mathlib.Core.Bool.{true}
use mathlib.Core.List.{List}
use mathlib.Core.Path.{◌≡◌, refl, ap, sym, subst, ◌∙◌}
use Prim.Native.Nat.{ℕ, ◌+◌, ◌*◌, ◌^◌, ◌≤◌, ◌<◌}
use native.Mathlib.Nat.{mul-pos}
use native.Mathlib.Omega.{arith}
use borrow.Author.Tests.{eqb-true, eqb-false, le-leb}
use lib.Dec.{eqb}
use lib.Ieee.{Float, of_bits, le}
use lib.Ieee.Bits.{is_true}
use lib.ListN.{length}
use Rattle.numbers.specs.Reals.{millionth, two_million}
use Rattle.plane.specs.Ranges.{is_coordinate}
use Rattle.spans.specs.Mesh.{extent_of, box_of}
use Rattle.spans.specs.Axis.{cells_along}
use Rattle.plane.proofs.Ranges.{coordinate, two, radius}
use Rattle.spans.proofs.Sizes.{Size, size_range}
use Rattle.rules.proofs.Branches.{by_test}
use Rattle.spans.proofs.Extremes.{Ordered, ordered_x, ordered_y, along_few, in_order, near_ends}
use Rattle.spans.proofs.Scales.{eps_above, eps_under}
use Rattle.rules.specs.Every.{is_from}
use Rattle.cells.specs.Cover.{starts_of, members_table}
use Rattle.cells.proofs.Reading.{cell_is, starts_room, starts_rise, starts_within, once, member_of}
use Rattle.grid.specs.Grid.{triangles_in, grid_of, cells_in, cells_of, cover_of}
use Rattle.grid.specs.Header.{header_of, in_ranges}
use Rattle.grid.specs.Boxes.{boxes_of}
use Rattle.grid.specs.Build.{Built, Outcome, outcome, refused_by, accepted_with, unless, filled_of, gridded, build_of}
use Rattle.grid.specs.Index.{Index, index_of, InGrid, BuiltFrom, SoundIndex, BuildPromise}
use Rattle.grid.specs.Inside.{NearBox, Gridded}
use Rattle.grid.proofs.Gridding.{within}
use Rattle.grid.proofs.Boxing.{boxes_length, boxes_at}
use Rattle.grid.proofs.Accepting.{Accepted, accepted, Passed, passed}

two_million_is_lem : two_million ≡ two
unfolding of_bits
two_million_is_lem = refl

from : (a e k : ℕ) → a ≤ k → k ≤ e → is_from a e k ≡ true
unfolding is_from
from a e k h l = rw (le-leb a k h, le-leb k e l)

module _ (mesh : List Float) (floor r : Float) (x : List Float) (a : Accepted mesh floor r x) where
  across : (i : ℕ) → i < triangles_in mesh
      → Ordered (extent_of mesh (triangles_in mesh)).left (box_of mesh i).low_x (box_of mesh i).high_x (extent_of mesh (triangles_in mesh)).right
  across = ordered_x mesh a.numbers (triangles_in mesh) (omega (arith, a.nine))

  upward : (i : ℕ) → i < triangles_in mesh
      → Ordered (extent_of mesh (triangles_in mesh)).bottom (box_of mesh i).low_y (box_of mesh i).high_y (extent_of mesh (triangles_in mesh)).top
  upward = ordered_y mesh a.numbers (triangles_in mesh) (omega (arith, a.nine))

  size_good : Size (grid_of mesh (triangles_in mesh) r).size
  unfolding grid_of
  size_good =
      let x = across 0 a.some in
      let y = upward 0 a.some in
      size_range (extent_of mesh (triangles_in mesh)) r (coordinate _ x.lo_good) (coordinate _ x.hi_good) (coordinate _ y.lo_good)
      (coordinate _ y.hi_good) (radius r a.radius) (triangles_in mesh) a.some a.few

  pub grid_fits : ((grid_of mesh (triangles_in mesh) r).columns < 2 ^ 64) × ((grid_of mesh (triangles_in mesh) r).rows < 2 ^ 64)
  unfolding grid_of
  grid_fits = (omega (arith, along_few _ _ _ _ _ (across 0 a.some) size_good), omega (arith, along_few _ _ _ _ _ (upward 0 a.some) size_good))

  pub grid_some : (0 < (grid_of mesh (triangles_in mesh) r).columns) × (0 < (grid_of mesh (triangles_in mesh) r).rows)
  unfolding grid_of cells_along
  grid_some = (omega arith, omega arith)

  near_box : (i : ℕ) → i < triangles_in mesh → (grid_of mesh (triangles_in mesh) r).columns ≤ 65536 → (grid_of mesh (triangles_in mesh) r).rows ≤ 65536
      → NearBox (grid_of mesh (triangles_in mesh) r) (box_of mesh i)
  unfolding grid_of
  near_box i h c d =
      let x = near_ends _ _ _ _ _ (across i h) size_good c in
      let y = near_ends _ _ _ _ _ (upward i h) size_good d in
      record { left = x.0; right = x.1; bottom = y.0; top = y.1 }

  pub grid_gridded : (lent : ℕ) → Passed (grid_of mesh (triangles_in mesh) r).columns (grid_of mesh (triangles_in mesh) r).rows lent
      → Gridded mesh (triangles_in mesh) (grid_of mesh (triangles_in mesh) r)
  grid_gridded lent p =
      record {
        nine = omega (arith, a.nine);
        few = a.few;
        some = grid_some;
        wide = p.wide;
        tall = p.tall;
        numbers = a.numbers;
        near = λ i h. near_box i h p.wide p.tall;
      }

  lies : (i : ℕ) → i < triangles_in mesh → InGrid (grid_of mesh (triangles_in mesh) r) (cells_of mesh (grid_of mesh (triangles_in mesh) r) i)
  lies i h =
      let w = within mesh (grid_of mesh (triangles_in mesh) r) i grid_some.0 grid_some.1 in
      record {
        columns = unfold grid_of cells_of in in_order _ _ _ _ _ (across i h) size_good;
        right = w.0;
        rows = unfold grid_of cells_of in in_order _ _ _ _ _ (upward i h) size_good;
        top = w.1;
      }

  -- ---- the header's ranges
  pub header_ranges : (lent : ℕ) → Passed (grid_of mesh (triangles_in mesh) r).columns (grid_of mesh (triangles_in mesh) r).rows lent
      → in_ranges (header_of mesh (triangles_in mesh) (grid_of mesh (triangles_in mesh) r) floor r) ≡ true
  unfolding in_ranges header_of
  header_ranges lent p =
      let g = grid_of mesh (triangles_in mesh) r in
      let n = triangles_in mesh in
      let e₁ : is_from 1 65536 n ≡ true = from 1 65536 n (omega (arith, a.some)) a.few in
      let e₂ : is_coordinate g.x ≡ true = unfold grid_of in (across 0 a.some).lo_good in
      let e₃ : is_coordinate g.y ≡ true = unfold grid_of in (upward 0 a.some).lo_good in
      let e₄ : le millionth g.size ≡ true = is_true _ size_good.least in
      let e₅ : le g.size two_million ≡ true = rw two_million_is_lem (is_true _ size_good.most) in
      let e₆ : is_from 1 65536 g.columns ≡ true = from 1 65536 g.columns (omega (arith, grid_some)) p.wide in
      let e₇ : is_from 1 65536 g.rows ≡ true = from 1 65536 g.rows (omega (arith, grid_some)) p.tall in
      let e₈ : is_from 1 1048576 (g.rows * g.columns) ≡ true = from 1 1048576 (g.rows * g.columns) (mul-pos grid_some.1 grid_some.0) p.few in
      let e₉ = eps_above mesh a.numbers n (omega (arith, a.nine)) in
      let e₀ = eps_under mesh a.numbers n (omega (arith, a.nine)) in
      rw (e₁, e₂, e₃, a.bottom, e₄, e₅, e₆, e₇, e₈, e₉, e₀, a.radius)

  -- ---- both tables
  module _ (s m : List ℕ) (p : Passed (grid_of mesh (triangles_in mesh) r).columns (grid_of mesh (triangles_in mesh) r).rows (length s)) where
    sound : SoundIndex
        (index_of mesh (header_of mesh (triangles_in mesh) (grid_of mesh (triangles_in mesh) r) floor r)
        (starts_of (cover_of mesh (grid_of mesh (triangles_in mesh) r)) (triangles_in mesh) (cells_in (grid_of mesh (triangles_in mesh) r)) s)
        (members_table (cover_of mesh (grid_of mesh (triangles_in mesh) r)) (triangles_in mesh) (cells_in (grid_of mesh (triangles_in mesh) r)) m)
        (boxes_of mesh (triangles_in mesh)))
    unfolding header_of
    sound =
        let g = grid_of mesh (triangles_in mesh) r in
        let n = triangles_in mesh in
        record {
          nine = a.nine;
          ranges = unfold header_of in header_ranges (length s) p;
          numbers = a.numbers;
          room = starts_room (cover_of mesh g) n (cells_in g) s m;
          rise = starts_rise (cover_of mesh g) n (cells_in g) s m;
          within = λ c h. starts_within (cover_of mesh g) n (cells_in g) s m (c + 1) (omega arith);
          cell = cell_is (cover_of mesh g) n (cells_in g) s m;
          once = λ c i k h. rw (cell_is (cover_of mesh g) n (cells_in g) s m c k) (once (cover_of mesh g) c n i h);
          below = λ c j k h. let e = cell_is (cover_of mesh g) n (cells_in g) s m c k in rw e (member_of (cover_of mesh g) c n j (rw e at h)).0;
          five = boxes_length mesh n;
          boxed = boxes_at mesh n;
          lies = lies;
        }

-- ---- back from an answer that is no refusal
unless_then : (k p : ℕ) (s m : List ℕ) (x : List Float) (next : Outcome) (Q : Outcome → Type 0) → (k ≡ 0 → next.built.refusal ≡ 0 → Q next)
    → (unless k p s m x next).built.refusal ≡ 0 → Q (unless k p s m x next)
unfolding unless refused_by
unless_then k p s m x next Q f e =
    by_test (eqb k 0)
    (λ t. rw t (f (eqb-true k 0 t) (rw t at e)))
    (λ t. let g : k ≡ 0 → ⊥ = eqb-false k 0 t in absurd (g (rw t at e)))

module _ (mesh : List Float) (floor r : Float) (s m : List ℕ) (x : List Float) where
  abbrev Left : Outcome → Type 0
  Left o = SoundIndex (index_of mesh o.built.header o.starts o.members o.boxes) × (o.built ≡ accepted_with o.built.header)

  whole : (build_of mesh floor r s m x).built.refusal ≡ 0 → Left (build_of mesh floor r s m x)
  unfolding build_of gridded filled_of accepted_with
  whole =
      unless_then _ _ s m x _ Left
      (λ w.
      unless_then _ _ s m x _ Left
      (λ y.
      unless_then _ _ s m x _ Left
      (λ z e. (sound mesh floor r x (accepted mesh floor r x w) s m (passed _ _ _ y), refl))))

  built_left_lem : (o : Outcome) → o ≡ build_of mesh floor r s m x → o.built.refusal ≡ 0 → Left o
  built_left_lem o p = subst (λ (o : Outcome). o.built.refusal ≡ 0 → Left o) (sym p) whole

  pub build_promise : (b : Built) (s' m' : List ℕ) (x' : List Float) → outcome b s' m' x' ≡ build_of mesh floor r s m x
      → BuildPromise (index_of mesh b.header s' m' x') b.refusal
  build_promise b s' m' x' e =
      record {
        built = λ z.
            record {
              floor = floor;
              r = r;
              old_starts = s;
              old_members = m;
              old_boxes = x;
              built = sym e ∙ ap (λ (v : Built). outcome v s' m' x') (built_left_lem (outcome b s' m' x') e z).1;
            };
        sound = λ z. (built_left_lem (outcome b s' m' x') e z).0;
      }

-- the index that `build` makes of its mesh is sound
pub index_sound : (ix : Index) → BuiltFrom ix → SoundIndex ix
unfolding accepted_with
index_sound ix b =
    (built_left_lem ix.mesh b.floor b.r b.old_starts b.old_members b.old_boxes
    (outcome (accepted_with ix.header) ix.starts ix.members ix.boxes) (sym b.built) refl).0
