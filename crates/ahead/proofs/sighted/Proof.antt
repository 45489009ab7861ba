use mathlib.Core.Path.{ap, ◌∙◌}
use Rattle.rules.proofs.Branches.{taken, left, bool_called}
use Rattle.ahead.specs.Inside.{sighted_more, sighted_of}
use Rattle.ahead.proofs.sighted.Statement.{statement}
use Rattle.ahead.proofs.sighted.Tie as tie

returns : tie.Need-returns-then-top-z
unfolding sighted_of
returns c = taken _ _ _ _ (rw c.before.vertices-z.ensures at c.if-top-z.true) c.before.vertices-z.ensures

returns-2 : tie.Need-returns-then-is_large
unfolding sighted_of
returns-2 c =
    let e = c.before.before.before.before.vertices-z.ensures in
    left _ _ _ _ (rw e at c.before.before.before.if-top-z.false)
    (taken _ _ _ _ (bool_called _ _ _ c.before.before.is_large.ensures c.before.if-is_large.true) (c.more.ensures ∙ ap (sighted_more _ _ _) e))

returns-3 : tie.Need-returns
unfolding sighted_of
returns-3 c =
    let e = c.before.before.before.vertices-z.ensures in
    left _ _ _ _ (rw e at c.before.before.if-top-z.false) (left _ _ _ _ (bool_called _ _ _ c.before.is_large.ensures c.if-is_large.false) e)

pub sighted_spec : {M : Type 1} → statement M
sighted_spec = tie.close (tie.spec (λ c κs. tt) returns (λ c κs. tt) (λ c κs. tt) returns-2 returns-3)
