-- `grid::grid_of` meets its contract.
use native.Mathlib.Omega.{arith}
use borrow.Author.Rules.{rules}
use Rattle.grid.proofs.Gridding.{grid_is, columns_are, rows_are}
use Rattle.grid.proofs.grid_of.Statement.{statement}
use Rattle.grid.proofs.grid_of.Tie as tie

cells_along-requires : tie.Need-cells_along-columns-requires
cells_along-requires c κs =
    let b = c.before.before in
    omega (arith, columns_are _ _ _ _ _ _ b.extent_of-e.ensures c.before.span.ensures c.size-size.ensures, b.before.before.requires.1.1.0)

cells_along-requires-2 : tie.Need-cells_along-rows-requires
cells_along-requires-2 c κs =
    let b = c.before.before.before in
    omega (arith, rows_are _ _ _ _ _ _ b.extent_of-e.ensures c.before.before.span.ensures c.before.size-size.ensures, b.before.before.requires.1.1.1)

returns : tie.Need-returns
returns c =
    let b = c.before.before.before.before in
    grid_is _ _ _ _ _ _ b.extent_of-e.ensures c.before.before.before.span.ensures c.before.before.size-size.ensures _ _
    c.before.cells_along-columns.ensures c.cells_along-rows.ensures

pub grid_of_spec : {M : Type 1} → statement M
grid_of_spec = tie.close (tie.spec (λ c κs. search rules) (λ c κs. tt) (λ c κs. tt) cells_along-requires cells_along-requires-2 returns)
