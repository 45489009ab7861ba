-- `mandrikelo_raise`: what raising leaves in C's arrays, refused and accepted.
use Rattle.std.proofs.Common.{refl}
use Rattle.handed.specs.Handed.{header_from}
use Rattle.desk_raise.proofs.Left.{err_door, ok_door}
use Rattle.desk_raise.proofs.mandrikelo_raise.Goals as goal

pub returns-in-Ok-clause-bad_after : goal.returns-in-Ok-clause-bad_after
unfolding header_from
returns-in-Ok-clause-bad_after c =
    (ok_door _ _ _ _ _ c.header_from.ensures _ _ c.in-Ok.h c.in-Ok.ensures.boxes_after c.in-Ok.ensures.raise_promise _ _ _ refl refl refl).0

pub returns-in-Ok-clause-raise_promise : goal.returns-in-Ok-clause-raise_promise
unfolding header_from
returns-in-Ok-clause-raise_promise c =
    (ok_door _ _ _ _ _ c.header_from.ensures _ _ c.in-Ok.h c.in-Ok.ensures.boxes_after c.in-Ok.ensures.raise_promise _ _ _ refl refl refl).1

pub returns-in-Err-clause-bad_after : goal.returns-in-Err-clause-bad_after
returns-in-Err-clause-bad_after c =
    (err_door _ _ _ _ _ c.header_from.ensures _ _ c.in-Err.refusal c.in-Err.ensures.boxes_after c.in-Err.ensures.raise_promise _ _ c.number.ensures
    c.told-place.ensures).0

pub returns-in-Err-clause-raise_promise : goal.returns-in-Err-clause-raise_promise
returns-in-Err-clause-raise_promise c =
    (err_door _ _ _ _ _ c.header_from.ensures _ _ c.in-Err.refusal c.in-Err.ensures.boxes_after c.in-Err.ensures.raise_promise _ _ c.number.ensures
    c.told-place.ensures).1
