-- `grid::build_grid`: refusal 5, or what comes next.
use Rattle.std.proofs.Common.{rules, ◌≡◌, refl, sym, ◌∙◌, ◌+◌, ◌*◌, ◌≤◌, length, arith}
use mathlib.Core.Path.{subst⁻¹}
use Rattle.refusals.specs.Numbers.{code_of, told_in}
use Rattle.grid.specs.declared.Grid.{Grid}
use Rattle.grid.specs.Grid.{triangles_in, cells_in}
use Rattle.grid.specs.Inside.{Gridded}
use Rattle.grid.proofs.Accepting.{accepted, gridded_err, gridded_next, found_passed}
use Rattle.grid.proofs.Indexing.{grid_fits, grid_gridded}
use Rattle.grid.proofs.build_grid.Goals as goal

pub grid_of-g-requires-clause-all_good : goal.grid_of-g-requires-clause-all_good
grid_of-g-requires-clause-all_good c = (accepted _ _ _ _ c.requires).numbers

pub grid_of-g-requires-clause-r_bound : goal.grid_of-g-requires-clause-r_bound
grid_of-g-requires-clause-r_bound c = grid_fits _ _ _ _ (accepted _ _ _ _ c.requires)

pub returns-in_err-refusal_of_grid : goal.returns-in_err-refusal_of_grid
unfolding code_of told_in
returns-in_err-refusal_of_grid c =
    gridded_err _ _ _ _ _ _ _ _ _ c.grid_of-g.ensures _ c.in_err-refusal_of_grid.ensures.code _ refl c.in_err-refusal_of_grid.ensures.place _ (search rules)

pub fill_grid-requires-clause-gridded : goal.fill_grid-requires-clause-gridded
unfolding code_of
fill_grid-requires-clause-gridded c =
    let p = found_passed c.args.mesh.now (triangles_in c.args.mesh.now) _ c.args.floor c.args.r c.args.starts.now
    c.args.members.now c.args.boxes.now _ c.grid_of-g.ensures _ c.in_ok-refusal_of_grid.ensures.code refl in
    subst⁻¹ (λ (g : Grid). Gridded c.args.mesh.now (triangles_in c.args.mesh.now) g) c.grid_of-g.ensures
    (grid_gridded _ _ _ _ (accepted _ _ _ _ c.requires) _ p)

pub fill_grid-requires-clause-g_in_bounds : goal.fill_grid-requires-clause-g_in_bounds
unfolding code_of
fill_grid-requires-clause-g_in_bounds c =
    let p = found_passed c.args.mesh.now (triangles_in c.args.mesh.now) _ c.args.floor c.args.r c.args.starts.now
    c.args.members.now c.args.boxes.now _ c.grid_of-g.ensures _ c.in_ok-refusal_of_grid.ensures.code refl in
    (subst⁻¹ (λ (g : Grid). cells_in g + 1 ≤ length c.args.starts.now) c.grid_of-g.ensures p.room, (accepted _ _ _ _ c.requires).five)

pub returns : goal.returns
unfolding code_of
returns c = gridded_next _ _ _ _ _ _ _ _ _ c.grid_of-g.ensures _ c.in_ok-refusal_of_grid.ensures.code _ refl c.fill_grid.ensures
