use borrow.Author.Rules.{rules}
use mathlib.Core.Path.{◌≡◌, refl, sym, ap, ◌∙◌}
use Rattle.rules.proofs.Branches.{taken, left}
use Rattle.plane.specs.Distance.{bary_of, inside, distance_xy}
use Rattle.plane.proofs.distance_xy.Statement.{statement}
use Rattle.plane.proofs.distance_xy.Tie as tie

-- what the test of the weights says of the place
tested : (c : tie.After-at_least) →
    let a = c.before.before.before.args in
    inside (bary_of a.t a.x a.y) ≡ c.at_least.result
unfolding inside
tested c =
    ap inside (sym c.before.before.bary.ensures ∙ c.before.in-Some.is) ∙ sym c.at_least.ensures

returns : tie.Need-returns-in-None
unfolding distance_xy inside
returns c =
    left _ _ _ _
    (ap inside (sym c.before.before.bary.ensures ∙ c.before.in-None.is))
    c.edge_distance.ensures

returns-2 : tie.Need-returns-then-at_least
unfolding distance_xy
returns-2 c = taken _ _ _ _ (tested c.before ∙ c.if-at_least.true) refl

returns-3 : tie.Need-returns-else-at_least
unfolding distance_xy
returns-3 c = left _ _ _ _ (tested c.before.before ∙ c.before.if-at_least.false) c.edge_distance-else-at_least.ensures

pub distance_xy_spec : {M : Type 1} → statement M
distance_xy_spec =
    tie.close
    (tie.spec
    (λ c κs. tt)
    (λ c. search rules)
    (λ c κs. tt)
    (λ c. search rules)
    (λ c κs. tt)
    (λ c κs. tt)
    returns
    returns-2
    returns-3)
