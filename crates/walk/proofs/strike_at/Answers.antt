use Rattle.std.proofs.Common.{not, ap}
use Rattle.walk.proofs.Rings.{fresh_again, fresh_first, fresh_room, strike_is}
use Rattle.walk.proofs.strike_at.Goals as goal

pub returns-then-not-fresh : goal.returns-then-not-fresh
returns-then-not-fresh g c =
    strike_is _ _ _ _ _ c.requires.3 (fresh_again _ _ _ _ _ _ c.fresh.ensures.0 c.fresh.ensures.1 (ap not c.if-not-fresh.true))

pub overflow_add-result : goal.overflow_add-result
overflow_add-result g c =
    record { fits = fresh_room _ _ _ _ _ c.fresh.ensures.0 (ap not c.if-not-fresh.false) c.requires.0 c.requires.1 }

pub returns : goal.returns
returns g c =
    strike_is _ _ _ _ _ c.requires.3
    (fresh_first _ _ _ _ _ _ c.fresh.ensures.0 c.fresh.ensures.1 (ap not c.if-not-fresh.false) _ (ap not c.is_blocker.ensures))
