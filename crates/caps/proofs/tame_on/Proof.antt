use Rattle.rules.proofs.Branches.{and_on, and_off, bool_called}
use Rattle.caps.specs.Inside.{tame_on}
use Rattle.caps.proofs.tame_on.Statement.{statement}
use Rattle.caps.proofs.tame_on.Tie as tie

returns : tie.Need-returns-then-side_tame-2
unfolding tame_on
returns c =
    and_on _ _ _ (bool_called _ _ _ c.before.before.before.before.before.before.in_order.ensures
    c.before.before.before.before.before.if-in_order.true)
    (and_on _ _ _ (bool_called _ _ _ c.before.before.before.before.side_tame.ensures c.before.before.before.if-side_tame.true)
    (and_on _ _ _ (bool_called _ _ _ c.before.before.side_tame-then-side_tame.ensures c.before.if-side_tame-2.true) c.side_tame-then-side_tame-2.ensures))

returns-2 : tie.Need-returns-else-side_tame-2
unfolding tame_on
returns-2 c =
    and_on _ _ _ (bool_called _ _ _ c.before.before.before.before.before.in_order.ensures c.before.before.before.before.if-in_order.true)
    (and_on _ _ _ (bool_called _ _ _ c.before.before.before.side_tame.ensures c.before.before.if-side_tame.true)
    (and_off _ _ _ (bool_called _ _ _ c.before.side_tame-then-side_tame.ensures c.if-side_tame-2.false) c.if-side_tame-2.false))

returns-3 : tie.Need-returns-else-side_tame
unfolding tame_on
returns-3 c =
    and_on _ _ _ (bool_called _ _ _ c.before.before.before.in_order.ensures c.before.before.if-in_order.true)
    (and_off _ _ _ (bool_called _ _ _ c.before.side_tame.ensures c.if-side_tame.false) c.if-side_tame.false)

returns-4 : tie.Need-returns-else-in_order
unfolding tame_on
returns-4 c = and_off _ _ _ (bool_called _ _ _ c.before.in_order.ensures c.if-in_order.false) c.if-in_order.false

pub tame_on_spec : {M : Type 1} → statement M
tame_on_spec = tie.close (tie.spec (λ c κs. tt) (λ c κs. tt) (λ c κs. tt) (λ c κs. tt) returns returns-2 returns-3 returns-4)
