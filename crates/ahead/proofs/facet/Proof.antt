use mathlib.Core.Path.{refl}
use Rattle.rules.proofs.Branches.{taken, left, bool_called}
use Rattle.ahead.specs.Inside.{sighted_facet}
use Rattle.ahead.proofs.facet.Statement.{statement}
use Rattle.ahead.proofs.facet.Tie as tie

returns : tie.Need-returns-then-is_across
unfolding sighted_facet
returns c =
    taken _ _ _ _ (bool_called _ _ _ c.before.before.before.is_across.ensures c.before.before.if-is_across.true)
    (rw (c.rested.ensures, c.before.rest_on.ensures))

returns-2 : tie.Need-returns
unfolding sighted_facet
returns-2 c = left _ _ _ _ (bool_called _ _ _ c.before.is_across.ensures c.if-is_across.false) refl

pub facet_spec : {M : Type 1} → statement M
facet_spec = tie.close (tie.spec (λ c κs. tt) (λ c κs. tt) (λ c κs. tt) returns returns-2)
