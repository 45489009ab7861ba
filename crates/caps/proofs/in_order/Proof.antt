use mathlib.Core.Path.{refl}
use Rattle.rules.proofs.Branches.{and_on, and_off}
use Rattle.caps.specs.Inside.{in_order}
use Rattle.caps.proofs.in_order.Statement.{statement}
use Rattle.caps.proofs.in_order.Tie as tie

returns : tie.Need-returns-then-lo-hi
unfolding in_order
returns c = and_on _ _ _ c.before.if-lo.true (and_on _ _ _ c.if-lo-hi.true refl)

returns-2 : tie.Need-returns-else-lo-hi
unfolding in_order
returns-2 c = and_on _ _ _ c.before.if-lo.true (and_off _ _ _ c.if-lo-hi.false c.if-lo-hi.false)

returns-3 : tie.Need-returns-else-lo
unfolding in_order
returns-3 c = and_off _ _ _ c.if-lo.false c.if-lo.false

pub in_order_spec : {M : Type 1} → statement M
in_order_spec = tie.close (tie.spec returns returns-2 returns-3)
