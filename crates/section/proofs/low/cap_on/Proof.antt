use mathlib.Core.Path.{refl}
use Rattle.rules.proofs.Branches.{taken, left, bool_called}
use Rattle.section.specs.Inside.{cap_of}
use Rattle.section.proofs.low.cap_on.Statement.{statement}
use Rattle.section.proofs.low.cap_on.Tie as tie

returns : tie.Need-returns-then-tame_on
unfolding cap_of
returns c =
    taken _ _ _ _ c.before.before.before.before.before.before.if-low.true
    (taken _ _ _ _ (bool_called _ _ _ c.before.before.before.before.before.tame_on.ensures c.before.before.before.before.if-tame_on.true)
    (rw (c.over.ensures, c.before.high_on.ensures, c.before.before.min-d.ensures, c.before.before.before.least_on.ensures)))

returns-2 : tie.Need-returns-else-tame_on
unfolding cap_of
returns-2 c = taken _ _ _ _ c.before.before.if-low.true (left _ _ _ _ (bool_called _ _ _ c.before.tame_on.ensures c.if-tame_on.false) refl)

returns-3 : tie.Need-returns-else-low
unfolding cap_of
returns-3 c = left _ _ _ _ c.if-low.false refl

pub cap_on_spec : {M : Type 1} → statement M
cap_on_spec = tie.close (tie.spec (λ c κs. tt) (λ c κs. tt) (λ c κs. tt) (λ c κs. tt) (λ c κs. tt) returns returns-2 returns-3)
