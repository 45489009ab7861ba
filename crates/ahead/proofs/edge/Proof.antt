use mathlib.Core.Path.{refl}
use Rattle.rules.proofs.Branches.{taken, left}
use Rattle.ahead.specs.Inside.{sighted_edge}
use Rattle.ahead.proofs.edge.Statement.{statement}
use Rattle.ahead.proofs.edge.Tie as tie

returns : tie.Need-returns-then-max-b
unfolding sighted_edge
returns c = taken _ _ _ _ (rw c.before.max.ensures at c.if-max-b.true) refl

returns-2 : tie.Need-returns-then-along
unfolding sighted_edge
returns-2 c = left _ _ _ _ (rw c.before.before.max.ensures at c.before.if-max-b.false) (taken _ _ _ _ c.if-along.true refl)

returns-3 : tie.Need-returns-then-square-along
unfolding sighted_edge
returns-3 c =
    left _ _ _ _ (rw c.before.before.before.max.ensures at c.before.before.if-max-b.false)
    (left _ _ _ _ c.before.if-along.false (taken _ _ _ _ c.if-square-along.true refl))

returns-4 : tie.Need-returns-then-far-square
unfolding sighted_edge
returns-4 c =
    left _ _ _ _ (rw c.before.before.before.before.max.ensures at c.before.before.before.if-max-b.false)
    (left _ _ _ _ c.before.before.if-along.false (left _ _ _ _ c.before.if-square-along.false (taken _ _ _ _ c.if-far-square.true refl)))

returns-5 : tie.Need-returns
unfolding sighted_edge
returns-5 c =
    left _ _ _ _ (rw c.before.before.before.before.before.max.ensures at c.before.before.before.before.if-max-b.false)
    (left _ _ _ _ c.before.before.before.if-along.false (left _ _ _ _ c.before.before.if-square-along.false (left _ _ _ _ c.before.if-far-square.false c.tip.ensures)))

pub edge_spec : {M : Type 1} → statement M
edge_spec = tie.close (tie.spec (λ c κs. tt) returns returns-2 returns-3 returns-4 (λ c κs. tt) returns-5)
