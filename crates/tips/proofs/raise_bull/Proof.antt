use borrow.Author.Rules.{rules}
use mathlib.Core.Path.{ap, ◌∙◌}
use Rattle.plane.specs.declared.Triangle.{Triangle}
use Rattle.plane.specs.declared.Bounds.{Bounds}
use Rattle.plane.specs.Mesh.{triangle_of}
use Rattle.tips.specs.Contact.{bull_step, bull_raised}
use Rattle.tips.proofs.raise_bull.Statement.{statement}
use Rattle.tips.proofs.raise_bull.Tie as tie

returns : tie.Need-returns
unfolding bull_step
returns c =
    let a = c.before.before.before.before.before.args in
    c.raise_bull_on.ensures
    ∙ ap (λ (t : Triangle). bull_raised t c.before.before.box_at-b.result.top a.i a.k a.best) c.before.triangle_at.ensures
    ∙ ap (λ (b : Bounds). bull_raised (triangle_of a.mesh.now a.i) b.top a.i a.k a.best) c.before.before.box_at-b.ensures

pub raise_bull_spec : {M : Type 1} → statement M
raise_bull_spec = tie.close (tie.spec (λ c κs. search rules) (λ c κs. search rules) (λ c κs. tt) returns)
