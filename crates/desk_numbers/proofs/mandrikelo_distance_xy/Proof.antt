use borrow.Author.Rules.{rules}
use mathlib.Core.Path.{ap, ◌∙◌}
use Rattle.plane.specs.Distance.{distance_xy}
use Rattle.desk_numbers.proofs.mandrikelo_distance_xy.Statement.{statement}
use Rattle.desk_numbers.proofs.mandrikelo_distance_xy.Tie as tie

returns : tie.Need-returns
returns c =
    let a = c.before.before.before.args in
    c.distance_xy.ensures ∙ ap (λ t. distance_xy t a.x a.y) c.before.triangle_at.ensures

pub mandrikelo_distance_xy_spec : {M : Type 1} → statement M
mandrikelo_distance_xy_spec = tie.close (tie.spec (λ c κs. search rules) (λ c κs. tt) returns)
