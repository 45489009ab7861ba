-- `mandrikelo_setup_height`: the height, or a refusal's number and zeros.
use Rattle.std.proofs.Common.{◌∙◌}
use Rattle.micro.proofs.Signed.{again}
use Rattle.setup.specs.Answer.{told}
use Rattle.desk_um.proofs.Left.{question_again, ok_told, err_told}
use Rattle.desk_um.proofs.mandrikelo_setup_height.Goals as goal

pub number-z-requires : goal.number-z-requires
unfolding told
number-z-requires c = c.in-Ok.ensures.marks_after.1

pub returns-in-Ok-clause-counts_after : goal.returns-in-Ok-clause-counts_after
returns-in-Ok-clause-counts_after c =
    let f = c.ranges in
    let q = c.question_from.ensures
    ∙ question_again _ _ _ _ _ _ _ _ _ _ (again _ f.px.sfits) (again _ f.py.sfits) (again _ f.qx.sfits) (again _ f.qy.sfits) (again _ f.r.sfits) in
    (ok_told _ _ _ _ _ _ _ _ _ _ c.header_from.ensures q c.in-Ok.a (c.in-Ok.ensures.marks_after.0, c.in-Ok.ensures.setup_promise)
    c.in-Ok.ensures.marks_after.1 _ (again _ c.number-z.type_inv ∙ c.number-z.ensures)).0

pub returns-in-Ok-clause-setup_promise : goal.returns-in-Ok-clause-setup_promise
returns-in-Ok-clause-setup_promise c =
    let f = c.ranges in
    let q = c.question_from.ensures
    ∙ question_again _ _ _ _ _ _ _ _ _ _ (again _ f.px.sfits) (again _ f.py.sfits) (again _ f.qx.sfits) (again _ f.qy.sfits) (again _ f.r.sfits) in
    (ok_told _ _ _ _ _ _ _ _ _ _ c.header_from.ensures q c.in-Ok.a (c.in-Ok.ensures.marks_after.0, c.in-Ok.ensures.setup_promise)
    c.in-Ok.ensures.marks_after.1 _ (again _ c.number-z.type_inv ∙ c.number-z.ensures)).1

pub returns-in-Err-clause-counts_after : goal.returns-in-Err-clause-counts_after
returns-in-Err-clause-counts_after c =
    let f = c.ranges in
    let q = c.question_from.ensures
    ∙ question_again _ _ _ _ _ _ _ _ _ _ (again _ f.px.sfits) (again _ f.py.sfits) (again _ f.qx.sfits) (again _ f.qy.sfits) (again _ f.r.sfits) in
    (err_told _ _ _ _ _ _ _ _ _ _ c.header_from.ensures q c.in-Err.refusal (c.in-Err.ensures.marks_after.0, c.in-Err.ensures.setup_promise) _ c.number.ensures).0

pub returns-in-Err-clause-setup_promise : goal.returns-in-Err-clause-setup_promise
returns-in-Err-clause-setup_promise c =
    let f = c.ranges in
    let q = c.question_from.ensures
    ∙ question_again _ _ _ _ _ _ _ _ _ _ (again _ f.px.sfits) (again _ f.py.sfits) (again _ f.qx.sfits) (again _ f.qy.sfits) (again _ f.r.sfits) in
    (err_told _ _ _ _ _ _ _ _ _ _ c.header_from.ensures q c.in-Err.refusal (c.in-Err.ensures.marks_after.0, c.in-Err.ensures.setup_promise) _ c.number.ensures).1
