-- A triangle of the mesh whose box meets the question's box shares a cell with the question.
use mathlib.Core.Bool.{true}
use mathlib.Core.List.{List}
use mathlib.Core.Path.{◌≡◌, refl, ◌∙◌, subst⁻¹}
use Prim.Native.Nat.{ℕ, zero, suc, ◌+◌, ◌-◌, ◌*◌, ◌/◌, ◌%◌, ◌≤◌, ◌<◌, min, max}
use native.Mathlib.Nat.{div-zero, le-div_iff_mul-le, div-mul-le_self, le_trans, mul-add-mod_self_right, mul-add-div_right, mod-eq_of_lt, div-eq_of_lt}
use native.Mathlib.Omega.{arith}
use borrow.Author.Tests.{leb-true, le-ltb, lt-leb}
use lib.Dec.{leb}
use lib.IntN.{ℤ}
use Rattle.rules.proofs.Branches.{both_true, left}
use Rattle.cells.specs.Cover.{covers}
use Rattle.cells.proofs.Sets.{covered}
use Rattle.query.specs.declared.Span.{Span}
use Rattle.query.specs.declared.Patch.{Patch}
use Rattle.query.specs.Looked.{SharesCell}
use Rattle.micro.specs.declared.Box.{Box}
use Rattle.micro.specs.Micro.{box_of}
use Rattle.um.specs.declared.Grid.{Grid}
use Rattle.um.specs.Grid.{cells_along, extent_of, grid_of, stretch_of, cells_of, cover_of}
use Rattle.um.specs.Index.{Index, SoundIndex}
use Rattle.um.proofs.Extents.{inside, box_order}
use Rattle.setup.specs.declared.Reach.{Reach}
use Rattle.setup.specs.declared.Question.{Question}
use Rattle.setup.specs.Question.{touches, meets, reach_of, span_of, patch_of}
use Rattle.setup.specs.Demand.{Shares}

div_mono : (a b c : ℕ) → a ≤ b → a / c ≤ b / c
div_mono a b zero h = rw (div-zero a, div-zero b) (omega arith)
div_mono a b (suc c) h = (le-div_iff_mul-le {k = suc c} {x = a / suc c} {y = b} (omega arith)).1 (le_trans (div-mul-le_self a (suc c)) h)

-- ---- on one axis: a column of both
record Common (s : Span) (from to count : ℕ) : Type 0 where
  at : ℕ
  first : s.first ≤ at
  past : at < s.past
  low : from ≤ at
  high : at ≤ to
  inside_of : at < count

touch_is : (low high a b r : ℕ) → touches low high a b r ≡ true → (a ≤ high + r) × (low ≤ b + r)
unfolding touches
touch_is low high a b r e = let p = both_true (leb a (high + r)) (leb low (b + r)) e in (leb-true _ _ p.0, leb-true _ _ p.1)

common : (origin end cell low high a b r : ℕ) → origin ≤ low → low ≤ high → high ≤ end → a ≤ b → touches low high a b r ≡ true
    → Common (span_of a b r origin cell (cells_along origin end cell)) (stretch_of origin cell (cells_along origin end cell) low high).first
    (stretch_of origin cell (cells_along origin end cell) low high).last (cells_along origin end cell)
unfolding stretch_of
common origin end cell low high a b r h₀ h₁ h₂ h₃ e =
    let t = touch_is low high a b r e in
    let count = cells_along origin end cell in
    let f₁ : (a - (r + origin)) / cell ≤ (high - origin) / cell = div_mono _ _ cell (omega (arith, t)) in
    let f₂ : (low - origin) / cell ≤ (b + r - origin) / cell = div_mono _ _ cell (omega (arith, t)) in
    let f₃ : (low - origin) / cell ≤ (high - origin) / cell = div_mono _ _ cell (omega arith) in
    let f₄ : (a - (r + origin)) / cell ≤ (b + r - origin) / cell = div_mono _ _ cell (omega arith) in
    let f₅ : (high - origin) / cell ≤ (end - origin) / cell = div_mono _ _ cell (omega arith) in
    let s : record { first = (a - (r + origin)) / cell; past = min ((b + r - origin) / cell + 1) count } ≡ span_of a b r origin cell count =
    unfold span_of in left _ _ _ _ (le-ltb (b + r) origin (omega (arith, t))) (left _ _ _ _ (lt-leb count ((a - (r + origin)) / cell) (omega arith)) refl) in
    let k = max ((low - origin) / cell) ((a - (r + origin)) / cell) in
    record {
      at = k;
      first = rw (← s) (omega arith);
      past = rw (← s) (omega arith);
      low = omega arith;
      high = omega arith;
      inside_of = omega arith;
    }

-- ---- the cell in column x of row y
cell_covered : (columns x y : ℕ) (mesh : List ℤ) (g : Grid) (i : ℕ) → x < columns → (cells_of mesh g i).left ≤ x → x ≤ (cells_of mesh g i).right
    → (cells_of mesh g i).bottom ≤ y → y ≤ (cells_of mesh g i).top → covers columns (cells_of mesh g i) (y * columns + x) ≡ true
cell_covered columns x y mesh g i h a b c d =
    let m : (y * columns + x) % columns ≡ x = mul-add-mod_self_right y columns x ∙ mod-eq_of_lt h in
    let z : x / columns ≡ 0 = div-eq_of_lt h in
    let q : (y * columns + x) / columns ≡ y = mul-add-div_right {m = columns} (omega arith) y x ∙ omega arith in
    covered columns (cells_of mesh g i) (y * columns + x) (rw m a) (rw m b) (rw q c) (rw q d)

meet_is : (w : Reach) (b : Box) → meets w b ≡ true → (touches b.low_x b.high_x w.left w.right w.by ≡ true)
    × (touches b.low_y b.high_y w.bottom w.top w.by ≡ true)
unfolding meets
meet_is w b e = both_true _ _ e

ordered : (q : Question) → ((reach_of q).left ≤ (reach_of q).right) × ((reach_of q).bottom ≤ (reach_of q).top)
unfolding reach_of
ordered q = (omega arith, omega arith)

-- the cells of a question over a grid
abbrev patch_in : Grid → Reach → Patch
patch_in g w =
    let x = span_of w.left w.right w.by g.x g.cell g.columns in
    let y = span_of w.bottom w.top w.by g.y g.cell g.rows in
    record { x0 = x.first; x1 = x.past; y0 = y.first; y1 = y.past }

shares_at : (mesh : List ℤ) (n cell : ℕ) (q : Question) (i : ℕ) → i < n → meets (reach_of q) (box_of mesh i) ≡ true
    → SharesCell (cover_of mesh (grid_of (extent_of mesh n) cell)) n (grid_of (extent_of mesh n) cell).columns
    (patch_in (grid_of (extent_of mesh n) cell) (reach_of q)) i
unfolding grid_of cells_of
shares_at mesh n cell q i h e =
    let w = reach_of q in
    let b = box_of mesh i in
    let g = extent_of mesh n in
    let m = meet_is w b e in
    let k = inside mesh n i h in
    let o = box_order mesh i in
    let u = ordered q in
    let x = common g.left g.right cell b.low_x b.high_x w.left w.right w.by k.left o.0 k.right u.0 m.0 in
    let y = common g.bottom g.top cell b.low_y b.high_y w.bottom w.top w.by k.bottom o.1 k.top u.1 m.1 in
    record {
      triangle = h;
      x = x.at;
      y = y.at;
      column = (x.first, x.past);
      row = (y.first, y.past);
      covers = cell_covered _ x.at y.at mesh (grid_of g cell) i x.inside_of x.low x.high y.low y.high;
    }

pub meeting : (ix : Index) → SoundIndex ix → (q : Question) (i : ℕ) → i < ix.header.n → meets (reach_of q) (box_of ix.mesh i) ≡ true
    → Shares ix (patch_of ix.header (reach_of q)) i
unfolding patch_of
meeting ix d q i h e =
    subst⁻¹ (λ (g : Grid). SharesCell (cover_of ix.mesh g) ix.header.n g.columns (patch_in g (reach_of q)) i) d.grid
    (shares_at ix.mesh ix.header.n ix.header.cell q i h e)
