use mathlib.Core.Path.{refl}
use Rattle.rules.proofs.Branches.{taken, left}
use Rattle.ahead.specs.Inside.{sighted_vertex}
use Rattle.ahead.proofs.vertex.Statement.{statement}
use Rattle.ahead.proofs.vertex.Tie as tie

returns : tie.Need-returns-then-z-b
unfolding sighted_vertex
returns c = taken _ _ _ _ c.if-z-b.true refl

returns-2 : tie.Need-returns-then-far-q
unfolding sighted_vertex
returns-2 c = left _ _ _ _ c.before.if-z-b.false (taken _ _ _ _ c.if-far-q.true refl)

returns-3 : tie.Need-returns
unfolding sighted_vertex
returns-3 c = left _ _ _ _ c.before.before.if-z-b.false (left _ _ _ _ c.before.if-far-q.false c.tip.ensures)

pub vertex_spec : {M : Type 1} → statement M
vertex_spec = tie.close (tie.spec returns returns-2 (λ c κs. tt) returns-3)
