-- A triangle's cells lie in the grid, since their ends are held to it, and how many members there are.
use mathlib.Core.List.{List}
use mathlib.Core.Path.{◌≡◌, refl, ap, ap₂, ◌∙◌}
use Prim.Native.Nat.{ℕ, ◌+◌, ◌≤◌, ◌<◌}
use native.Mathlib.Nat.{div-lt_iff_lt-mul}
use native.Mathlib.Numerals.{add-one}
use native.Mathlib.Omega.{arith}
use lib.ListN.{length}
use lib.Ieee.{Float}
use Rattle.plane.specs.declared.Bounds.{Bounds}
use Rattle.spans.specs.Mesh.{box_of, extent_of}
use Rattle.spans.specs.Axis.{span_of, size_of, cells_along, stretch_of}
use Rattle.spans.specs.declared.Extent.{Extent}
use Rattle.spans.specs.declared.Stretch.{Stretch}
use Rattle.cells.specs.Cover.{area_of, start_of}
use Rattle.cells.specs.Inside.{Fitting, Fits, sums}
use Rattle.cells.specs.declared.Cells.{Cells}
use Rattle.cells.proofs.Sets.{covered_row}
use Rattle.cells.proofs.Totals.{total_is}
use Rattle.grid.specs.declared.Grid.{Grid}
use Rattle.grid.specs.Grid.{grid_of, cells_in, cells_of, cover_of, total_of}
use Rattle.grid.specs.Inside.{Gridded}

-- a stretch of columns and one of rows
abbrev pub joined : Stretch → Stretch → Cells
joined x y = record { left = x.first; right = x.last; bottom = y.first; top = y.last }

pub cells_are : (mesh : List Float) (g : Grid) (i : ℕ) (b : Bounds) (x y : Stretch) → b ≡ box_of mesh i
    → x ≡ stretch_of g.x g.size g.columns b.low_x b.high_x → y ≡ stretch_of g.y g.size g.rows b.low_y b.high_y
    → joined x y ≡ cells_of mesh g i
unfolding cells_of
cells_are mesh g i b x y p q r =
    ap₂ joined
    (q ∙ ap (λ (v : Bounds). stretch_of g.x g.size g.columns v.low_x v.high_x) p)
    (r ∙ ap (λ (v : Bounds). stretch_of g.y g.size g.rows v.low_y v.high_y) p)

-- ---- the grid from extremes
unfoldable grid_from : ℕ → Float → Extent → Grid
grid_from n r e =
    let size = size_of n (span_of e r) r in
    record { x = e.left; y = e.bottom; size = size; columns = cells_along e.left e.right size; rows = cells_along e.bottom e.top size }

module _ (mesh : List Float) (n : ℕ) (r : Float) (e : Extent) (span size : Float) (p : e ≡ extent_of mesh n) (q : span ≡ span_of e r)
    (t : size ≡ size_of n span r) where
  pub grid_is : (columns rows : ℕ) → columns ≡ cells_along e.left e.right size → rows ≡ cells_along e.bottom e.top size
      → record { x = e.left; y = e.bottom; size = size; columns = columns; rows = rows } ≡ grid_of mesh n r
  unfolding grid_from grid_of
  grid_is columns rows h k = (rw (h, k, t, q) refl) ∙ ap (grid_from n r) p

  pub columns_are : cells_along e.left e.right size ≡ (grid_of mesh n r).columns
  columns_are = ap (λ (g : Grid). g.columns) (grid_is _ _ refl refl)

  pub rows_are : cells_along e.bottom e.top size ≡ (grid_of mesh n r).rows
  rows_are = ap (λ (g : Grid). g.rows) (grid_is _ _ refl refl)

module _ (mesh : List Float) (g : Grid) where
  pub within : (i : ℕ) → 0 < g.columns → 0 < g.rows → ((cells_of mesh g i).right < g.columns) × ((cells_of mesh g i).top < g.rows)
  unfolding cells_of stretch_of
  within i a b = (omega arith, omega arith)

  pub total_none : 0 ≡ total_of mesh g 0
  unfolding total_of sums
  total_none = refl

  pub total_more : (n : ℕ) → total_of mesh g (n + 1) ≡ total_of mesh g n + area_of (cells_of mesh g n)
  unfolding total_of sums
  total_more n = rw (add-one n)

  module _ (n : ℕ) (z : Gridded mesh n g) where
    pub fitting : (i : ℕ) → Fitting g.columns (cells_of mesh g i)
    fitting i = let w = within i z.some.0 z.some.1 in record { right = w.0; wide = z.wide; tall = omega (arith, w.1, z.tall) }

    pub counted : total_of mesh g n ≡ start_of (cover_of mesh g) n (cells_in g)
    unfolding total_of
    counted =
        total_is (cover_of mesh g) g.columns g.rows (cells_of mesh g) (λ i c. refl) (λ i. (within i z.some.0 z.some.1).0)
        (λ i. (within i z.some.0 z.some.1).1) n

    pub fits : (s m : List ℕ) → cells_in g + 1 ≤ length s → total_of mesh g n ≤ 16777216 → total_of mesh g n ≤ length m → Fits (cover_of mesh g) n (cells_in g) s m
    fits s m t h l =
        record {
          inside = λ i c a b.
              (div-lt_iff_lt-mul {k = g.columns} {x = c} {y = g.rows} z.some.0).0
              (omega (arith, covered_row g.columns (cells_of mesh g i) c b, within i z.some.0 z.some.1));
          table = t;
          room = omega (arith, counted);
          small = omega (arith, counted);
        }
