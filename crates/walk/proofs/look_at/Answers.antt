use Rattle.std.proofs.Common.{not, ap}
use Rattle.walk.proofs.Rings.{fresh_again, fresh_first, fresh_room}
use Rattle.walk.proofs.look_at.Goals as goal

pub returns-then-not-fresh : goal.returns-then-not-fresh
returns-then-not-fresh g c =
    (fresh_again _ _ _ _ _ _ c.fresh.ensures.0 c.fresh.ensures.1 (ap not c.if-not-fresh.true), c.requires.3)

pub overflow_add-result : goal.overflow_add-result
overflow_add-result g c =
    record { fits = fresh_room _ _ _ _ _ c.fresh.ensures.0 (ap not c.if-not-fresh.false) c.requires.0 c.requires.1 }

pub look-requires : goal.look-requires
look-requires g c =
    (c.requires.2, c.requires.3, fresh_room _ _ _ _ _ c.fresh.ensures.0 (ap not c.if-not-fresh.false) c.requires.0 c.requires.1)

pub returns : goal.returns
returns g c =
    (fresh_first _ _ _ _ _ _ c.fresh.ensures.0 c.fresh.ensures.1 (ap not c.if-not-fresh.false) _ c.look.ensures.0, c.look.ensures.1)
