-- `plane::is_coordinate` meets its contract.
use mathlib.Core.Path.{refl, ◌∙◌}
use Rattle.rules.proofs.Branches.{and_on, and_off}
use Rattle.plane.proofs.Sides.{coordinate_sides}
use Rattle.plane.proofs.is_coordinate.Statement.{statement}
use Rattle.plane.proofs.is_coordinate.Tie as tie

returns : tie.Need-returns-then-x
returns c = and_on _ _ _ c.if-x.true refl ∙ coordinate_sides _

returns-2 : tie.Need-returns-else-x
returns-2 c = and_off _ _ _ c.if-x.false c.if-x.false ∙ coordinate_sides _

pub is_coordinate_spec : {M : Type 1} → statement M
is_coordinate_spec = tie.close (tie.spec returns returns-2)
