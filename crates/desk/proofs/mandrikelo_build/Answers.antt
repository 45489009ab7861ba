-- `mandrikelo_build`: what the builder leaves in C's arrays, refused and accepted.
use Rattle.handed.specs.Handed.{header_from}
use Rattle.grid.specs.Build.{told, accepted_with}
use Rattle.desk.proofs.Left.{fitting, ok_left, err_left, err_promise}
use Rattle.desk.proofs.mandrikelo_build.Goals as goal

pub overflow_cast-sizes : goal.overflow_cast-sizes
overflow_cast-sizes c = record { fits = (fitting _ c.in-Ok.h _ _ _ c.in-Ok.ensures.build_promise).n }

pub overflow_cast-sizes-in-Ok : goal.overflow_cast-sizes-in-Ok
overflow_cast-sizes-in-Ok c = record { fits = (fitting _ c.in-Ok.h _ _ _ c.in-Ok.ensures.build_promise).columns }

pub overflow_cast-sizes-in-Ok-2 : goal.overflow_cast-sizes-in-Ok-2
overflow_cast-sizes-in-Ok-2 c = record { fits = (fitting _ c.in-Ok.h _ _ _ c.in-Ok.ensures.build_promise).rows }

pub returns-in-Ok-clause-bad_after : goal.returns-in-Ok-clause-bad_after
returns-in-Ok-clause-bad_after c = ok_left _ _ _ _ c.in-Ok.h c.in-Ok.ensures.boxes_after

pub returns-in-Ok-clause-build_promise : goal.returns-in-Ok-clause-build_promise
unfolding header_from told accepted_with
returns-in-Ok-clause-build_promise c = c.in-Ok.ensures.build_promise

pub returns-in-Err-clause-bad_after : goal.returns-in-Err-clause-bad_after
returns-in-Err-clause-bad_after c = err_left _ _ _ _ c.in-Err.refusal c.in-Err.ensures.boxes_after _ _ c.number.ensures c.told-place.ensures

pub returns-in-Err-clause-build_promise : goal.returns-in-Err-clause-build_promise
returns-in-Err-clause-build_promise c = err_promise _ c.in-Err.refusal _ c.number.ensures
