use mathlib.Core.Path.{refl}
use Rattle.rules.proofs.Branches.{and_on, and_off, bool_called}
use Rattle.caps.specs.Inside.{tame_rise}
use Rattle.caps.proofs.tame_rise.Statement.{statement}
use Rattle.caps.proofs.tame_rise.Tie as tie

returns : tie.Need-returns-then-is_coordinate-3
unfolding tame_rise
returns c =
    and_on _ _ _ (bool_called _ _ _ c.before.before.before.before.before.is_coordinate.ensures c.before.before.before.before.if-is_coordinate.true)
    (and_on _ _ _ (bool_called _ _ _ c.before.before.before.is_coordinate-then-is_coordinate.ensures c.before.before.if-is_coordinate-2.true)
    (and_on _ _ _ (bool_called _ _ _ c.before.is_coordinate-then-is_coordinate-2.ensures c.if-is_coordinate-3.true) refl))

returns-2 : tie.Need-returns-else-is_coordinate-3
unfolding tame_rise
returns-2 c =
    and_on _ _ _ (bool_called _ _ _ c.before.before.before.before.before.is_coordinate.ensures c.before.before.before.before.if-is_coordinate.true)
    (and_on _ _ _ (bool_called _ _ _ c.before.before.before.is_coordinate-then-is_coordinate.ensures c.before.before.if-is_coordinate-2.true)
    (and_off _ _ _ (bool_called _ _ _ c.before.is_coordinate-then-is_coordinate-2.ensures c.if-is_coordinate-3.false) c.if-is_coordinate-3.false))

returns-3 : tie.Need-returns-else-is_coordinate-2
unfolding tame_rise
returns-3 c =
    and_on _ _ _ (bool_called _ _ _ c.before.before.before.is_coordinate.ensures c.before.before.if-is_coordinate.true)
    (and_off _ _ _ (bool_called _ _ _ c.before.is_coordinate-then-is_coordinate.ensures c.if-is_coordinate-2.false) c.if-is_coordinate-2.false)

returns-4 : tie.Need-returns-else-is_coordinate
unfolding tame_rise
returns-4 c = and_off _ _ _ (bool_called _ _ _ c.before.is_coordinate.ensures c.if-is_coordinate.false) c.if-is_coordinate.false

pub tame_rise_spec : {M : Type 1} → statement M
tame_rise_spec = tie.close (tie.spec (λ c κs. tt) (λ c κs. tt) (λ c κs. tt) returns returns-2 returns-3 returns-4)
