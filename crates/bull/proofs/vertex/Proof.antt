use mathlib.Core.Path.{ap, ◌∙◌}
use Rattle.numbers.specs.Reals.{◌⊖◌}
use Rattle.rules.proofs.Branches.{bool_called}
use Rattle.bull.specs.Bull.{bull_vertex}
use Rattle.bull.specs.Inside.{low_vertex}
use Rattle.bull.proofs.Bases.{vertex_stays}
use Rattle.bull.proofs.Rims.{none_beyond}
use Rattle.bull.proofs.vertex.Statement.{statement}
use Rattle.bull.proofs.vertex.Tie as tie

returns : tie.Need-returns-then-low_vertex
returns c =
    let a = c.before.before.before.before.before in
    vertex_stays _ _ _ _ _ _ _ a.requires.0
    (bool_called _ _ _ (c.before.low_vertex.ensures ∙ ap (low_vertex a.args.base a.args.z (a.args.x ⊖ a.args.k.x) (a.args.y ⊖ a.args.k.y))
    c.before.before.limit.ensures) c.if-low_vertex.true)

returns-2 : tie.Need-returns-then-dx-dy
returns-2 c = none_beyond _ _ _ _ _ _ _ c.before.before.before.before.before.before.requires.1 c.if-dx-dy.true

returns-3 : tie.Need-returns
unfolding bull_vertex
returns-3 c = rw (c.offer.ensures, c.before.over.ensures, c.before.before.hypot.ensures)

pub vertex_spec : {M : Type 1} → statement M
vertex_spec = tie.close (tie.spec (λ c κs. tt) (λ c κs. tt) returns returns-2 (λ c κs. tt) (λ c κs. tt) (λ c κs. tt) returns-3)
