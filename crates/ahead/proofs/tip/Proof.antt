use mathlib.Core.Path.{refl}
use Rattle.rules.proofs.Branches.{taken, left}
use Rattle.ahead.specs.Inside.{sighted_tip}
use Rattle.ahead.proofs.tip.Statement.{statement}
use Rattle.ahead.proofs.tip.Tie as tie

returns : tie.Need-returns-then-z-b
unfolding sighted_tip
returns c = taken _ _ _ _ c.if-z-b.true refl

returns-2 : tie.Need-returns-then-q-flat
unfolding sighted_tip
returns-2 c = left _ _ _ _ c.before.if-z-b.false (taken _ _ _ _ c.if-q-flat.true refl)

returns-3 : tie.Need-returns
unfolding sighted_tip
returns-3 c =
    left _ _ _ _ c.before.before.before.before.if-z-b.false
    (left _ _ _ _ c.before.before.before.if-q-flat.false (rw (c.max.ensures, c.before.bull_profile.ensures, c.before.before.root.ensures)))

pub tip_spec : {M : Type 1} → statement M
tip_spec = tie.close (tie.spec returns returns-2 (λ c κs. tt) (λ c κs. tt) (λ c κs. tt) returns-3)
