use mathlib.Core.Path.{refl, ap, ◌∙◌}
use Rattle.numbers.specs.Reals.{min_of}
use Rattle.rules.proofs.Branches.{taken, left, called_lt}
use Rattle.ahead.specs.Inside.{sighted_rest}
use Rattle.ahead.proofs.rested.Statement.{statement}
use Rattle.ahead.proofs.rested.Tie as tie

returns : tie.Need-returns-then-min
unfolding sighted_rest
returns c =
    taken _ _ _ _ (called_lt _ _ _ _ (c.before.before.min-2.ensures ∙ ap (min_of _) c.before.before.before.min.ensures) c.before.if-min.true)
    c.max.ensures

returns-2 : tie.Need-returns
unfolding sighted_rest
returns-2 c = left _ _ _ _ (called_lt _ _ _ _ (c.before.min-2.ensures ∙ ap (min_of _) c.before.before.min.ensures) c.if-min.false) refl

pub rested_spec : {M : Type 1} → statement M
rested_spec = tie.close (tie.spec (λ c κs. tt) (λ c κs. tt) (λ c κs. tt) returns returns-2)
