use Rattle.rules.proofs.Branches.{and_on, and_off, bool_called}
use Rattle.bull_pass.specs.Inside.{cutter_fair}
use Rattle.bull_pass.proofs.cutter_fair.Statement.{statement}
use Rattle.bull_pass.proofs.cutter_fair.Tie as tie

returns : tie.Need-returns-then-is_radius-2
unfolding cutter_fair
returns c = and_on _ _ _ (bool_called _ _ _ c.before.before.before.before.is_radius.ensures c.before.before.before.if-is_radius.true)
    (and_on _ _ _ (bool_called _ _ _ c.before.before.is_radius-then-is_radius.ensures c.before.if-is_radius-2.true) (rw c.root.ensures))

returns-2 : tie.Need-returns-else-is_radius-2
unfolding cutter_fair
returns-2 c = search (and_on, and_off, bool_called)

returns-3 : tie.Need-returns-else-is_radius
unfolding cutter_fair
returns-3 c = search (and_on, and_off, bool_called)

pub cutter_fair_spec : {M : Type 1} → statement M
cutter_fair_spec = tie.close (tie.spec (λ c κs. tt) (λ c κs. tt) (λ c κs. tt) returns returns-2 returns-3)
