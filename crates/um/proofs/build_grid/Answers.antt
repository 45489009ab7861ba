-- `um::build_grid`: refusal 5, or what comes next.
use Rattle.std.proofs.Common.{rules, ◌≡◌, refl, sym, ◌∙◌, arith}
use mathlib.Core.Path.{subst⁻¹}
use Rattle.refusals.specs.Numbers.{number_of, told_of}
use Rattle.um.proofs.Extents.{Whole}
use Rattle.um.proofs.Accepting.{accepted, gridded_err, gridded_next}
use Rattle.um.proofs.Indexing.{extremes, found_gridded}
use Rattle.um.proofs.build_grid.Goals as goal

pub size_of-cell-requires : goal.size_of-cell-requires
size_of-cell-requires c =
    let w = subst⁻¹ Whole c.extent_of-e.ensures (extremes _ _ _ (accepted _ _ _ c.requires)) in
    (w.across, w.upward, w.right, w.top)

pub returns-then-cell-eq0 : goal.returns-then-cell-eq0
unfolding number_of told_of
returns-then-cell-eq0 c = gridded_err _ _ _ _ _ _ _ _ c.extent_of-e.ensures c.size_of-cell.ensures _ refl refl c.if-cell-eq0.true

pub grid_of-requires : goal.grid_of-requires
grid_of-requires c =
    let w = subst⁻¹ Whole c.extent_of-e.ensures (extremes _ _ _ (accepted _ _ _ c.requires)) in
    (w.across, w.upward, w.right, w.top, omega (arith, c.if-cell-eq0.false))

pub fill_grid-requires : goal.fill_grid-requires
fill_grid-requires c =
    let f = found_gridded _ _ _ (accepted _ _ _ c.requires) _ _ _ _ c.extent_of-e.ensures c.size_of-cell.ensures c.if-cell-eq0.false c.grid_of.ensures in
    record { gridded = f.0; g_in_bounds = f.1 }

pub returns : goal.returns
returns c =
    gridded_next _ _ _ _ _ _ _ _ c.extent_of-e.ensures c.size_of-cell.ensures _ _ c.if-cell-eq0.false c.grid_of.ensures c.fill_grid.ensures
