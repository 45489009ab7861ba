-- `mandrikelo_build_um`: what the builder leaves in C's arrays, refused and accepted.
use Rattle.std.proofs.Common.{◌≡◌, ap, ◌∙◌}
use Rattle.micro.specs.Micro.{counted}
use Rattle.micro.proofs.Signed.{again}
use Rattle.um.specs.Build.{told, accepted_with}
use Rattle.desk_um.proofs.Left.{fitting, ok_left, ok_promise, err_left, err_promise}
use Rattle.desk_um.proofs.mandrikelo_build_um.Goals as goal

pub number-x-requires : goal.number-x-requires
number-x-requires c = (fitting _ c.in-Ok.h _ _ c.in-Ok.ensures.build_promise).x

pub number-y-requires : goal.number-y-requires
number-y-requires c = (fitting _ c.in-Ok.h _ _ c.in-Ok.ensures.build_promise).y

pub number-f-requires : goal.number-f-requires
number-f-requires c = (fitting _ c.in-Ok.h _ _ c.in-Ok.ensures.build_promise).floor

pub number-q-requires : goal.number-q-requires
number-q-requires c = (fitting _ c.in-Ok.h _ _ c.in-Ok.ensures.build_promise).r

pub overflow_cast-sizes : goal.overflow_cast-sizes
overflow_cast-sizes c = record { fits = (fitting _ c.in-Ok.h _ _ c.in-Ok.ensures.build_promise).n }

pub overflow_cast-sizes-in-Ok : goal.overflow_cast-sizes-in-Ok
overflow_cast-sizes-in-Ok c = record { fits = (fitting _ c.in-Ok.h _ _ c.in-Ok.ensures.build_promise).columns }

pub overflow_cast-sizes-in-Ok-2 : goal.overflow_cast-sizes-in-Ok-2
overflow_cast-sizes-in-Ok-2 c = record { fits = (fitting _ c.in-Ok.h _ _ c.in-Ok.ensures.build_promise).rows }

pub overflow_cast-sizes-in-Ok-3 : goal.overflow_cast-sizes-in-Ok-3
overflow_cast-sizes-in-Ok-3 c = record { fits = (fitting _ c.in-Ok.h _ _ c.in-Ok.ensures.build_promise).cell }

pub returns-in-Ok-clause-bad_after : goal.returns-in-Ok-clause-bad_after
returns-in-Ok-clause-bad_after c =
    ok_left _ _ _ _ _ (c.count.ensures.0 ∙ ap counted (again _ c.ranges.floor.sfits)) (c.count-2.ensures.0 ∙ ap counted (again _ c.ranges.r.sfits)) _ _ _ _
    c.in-Ok.h c.in-Ok.ensures.members_after _ _ _ _
    (again _ c.number-x.type_inv ∙ c.number-x.ensures) (again _ c.number-y.type_inv ∙ c.number-y.ensures)
    (again _ c.number-f.type_inv ∙ c.number-f.ensures) (again _ c.number-q.type_inv ∙ c.number-q.ensures)

pub returns-in-Ok-clause-build_promise : goal.returns-in-Ok-clause-build_promise
returns-in-Ok-clause-build_promise c =
    ok_promise _ c.in-Ok.h _ _ c.in-Ok.ensures.build_promise _ _ _ _
    (again _ c.number-x.type_inv ∙ c.number-x.ensures) (again _ c.number-y.type_inv ∙ c.number-y.ensures)
    (again _ c.number-f.type_inv ∙ c.number-f.ensures) (again _ c.number-q.type_inv ∙ c.number-q.ensures)

pub returns-in-Err-clause-bad_after : goal.returns-in-Err-clause-bad_after
returns-in-Err-clause-bad_after c =
    err_left _ _ _ _ _ (c.count.ensures.0 ∙ ap counted (again _ c.ranges.floor.sfits)) (c.count-2.ensures.0 ∙ ap counted (again _ c.ranges.r.sfits)) _ _ _ _
    c.in-Err.refusal c.in-Err.ensures.members_after _ _ c.number.ensures c.told-place.ensures

pub returns-in-Err-clause-build_promise : goal.returns-in-Err-clause-build_promise
returns-in-Err-clause-build_promise c = err_promise _ c.in-Err.refusal _ c.number.ensures
