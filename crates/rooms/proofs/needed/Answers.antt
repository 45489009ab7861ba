-- `rooms::needed`: refusals 1, 3, 2 and 4, or the rooms under the grid; and what a build is told with them.
use Rattle.std.proofs.Common.{rules, ◌≡◌, refl, sym, ◌∙◌, arith}
use mathlib.Core.Path.{subst⁻¹}
use Rattle.refusals.specs.Numbers.{code_of}
use Rattle.grid.specs.declared.Grid.{Grid}
use Rattle.grid.specs.Grid.{triangles_in}
use Rattle.grid.specs.Build.{refusal_of_grid}
use Rattle.grid.specs.Inside.{Gridded}
use Rattle.rooms.proofs.Asking.{asked, asked_fits, asked_gridded, rooms_err, found_rooms, rooms_promise}
use Rattle.rooms.proofs.needed.Goals as goal

pub returns-in_err-refusal-clause-value : goal.returns-in_err-refusal-clause-value
unfolding code_of
returns-in_err-refusal-clause-value c = rooms_err _ _ _ _ c.in_err-refusal.ensures _ (search rules)

pub returns-in_err-refusal-clause-rooms_promise : goal.returns-in_err-refusal-clause-rooms_promise
returns-in_err-refusal-clause-rooms_promise c = rooms_promise _ _ _ _ (returns-in_err-refusal-clause-value c)

pub grid_of-g-requires-clause-all_good : goal.grid_of-g-requires-clause-all_good
unfolding code_of
grid_of-g-requires-clause-all_good c = (asked _ _ _ (sym c.in_ok-refusal.ensures)).numbers

pub grid_of-g-requires-clause-r_bound : goal.grid_of-g-requires-clause-r_bound
unfolding code_of
grid_of-g-requires-clause-r_bound c = asked_fits _ _ _ (sym c.in_ok-refusal.ensures)

pub in_grid-requires : goal.in_grid-requires
unfolding code_of
in_grid-requires c =
    subst⁻¹ (λ (g : Grid). refusal_of_grid g.columns g.rows 1048577 ≡ 0 → Gridded c.args.mesh.now (triangles_in c.args.mesh.now) g) c.grid_of-g.ensures
    (asked_gridded _ _ _ (sym c.in_ok-refusal.ensures))

pub returns-clause-value : goal.returns-clause-value
unfolding code_of
returns-clause-value c = found_rooms _ _ _ _ _ (sym c.in_ok-refusal.ensures) c.grid_of-g.ensures c.in_grid.ensures

pub returns-clause-rooms_promise : goal.returns-clause-rooms_promise
returns-clause-rooms_promise c = rooms_promise _ _ _ _ (returns-clause-value c)
