use mathlib.Core.Path.{refl}
use borrow.Author.Rules.{rules}
use Rattle.um.specs.Grid.{grid_of}
use Rattle.um.proofs.grid_of.Statement.{statement}
use Rattle.um.proofs.grid_of.Tie as tie

returns : tie.Need-returns
unfolding grid_of
returns c = rw (c.before.cells_along-columns.ensures, c.cells_along-rows.ensures) refl

pub grid_of_spec : {M : Type 1} → statement M
grid_of_spec =
    tie.close
    (tie.spec (λ c κs. search rules) (λ c κs. search rules) returns)
