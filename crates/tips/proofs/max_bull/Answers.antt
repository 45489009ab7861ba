-- `tips::max_bull` meets its contract: refused as `ask::refusal` says, or the walk over the cells or the list that stands for them.
use Rattle.std.proofs.Common.{refl}
use Rattle.std.proofs.lemmas.Result.{err_from_is_err_and}
use borrow.Author.Tests.{leb-true}
use Rattle.refusals.specs.Numbers.{code_of}
use Rattle.refusals.proofs.Named.{not_zero}
use Rattle.ask.proofs.Narrowing.{narrow}
use Rattle.ask.proofs.Answers.{inside, height_refused, height_answered}
use Rattle.tips.proofs.Asking.{bull_answers}
use Rattle.tips.proofs.Readying.{ready_walks}
use Rattle.tips.proofs.max_bull.Goals as goal

pub refusal-requires : goal.refusal-requires
refusal-requires c = let i = inside _ _ _ _ _ _ _ c.patch_of-p.ensures in (i.0, i.1, refl)

pub returns-in_err-count-clause-marks_after : goal.returns-in_err-count-clause-marks_after
unfolding code_of
returns-in_err-count-clause-marks_after c =
    let p = err_from_is_err_and c.from_residual.result c.from_residual.ensures.1 in
    rw (p.1, p.2)
    (bull_answers _ _ _ _ _ _ _ _ _ c.patch_of-p.ensures c.is_stand-stands.ensures c.is_corner-corner.ensures
    (height_refused _ _ _ _ _ _ _ c.in_err-count.ensures.refusal_value _ (not_zero _))).0

pub returns-in_err-count-clause-bull_promise : goal.returns-in_err-count-clause-bull_promise
unfolding code_of
returns-in_err-count-clause-bull_promise c =
    let p = err_from_is_err_and c.from_residual.result c.from_residual.ensures.1 in
    rw (p.1, p.2)
    (bull_answers _ _ _ _ _ _ _ _ _ c.patch_of-p.ensures c.is_stand-stands.ensures c.is_corner-corner.ensures
    (height_refused _ _ _ _ _ _ _ c.in_err-count.ensures.refusal_value _ (not_zero _))).1

pub walk_nose-s-requires : goal.walk_nose-s-requires
unfolding code_of
walk_nose-s-requires c =
    let e = c.in_ok-count.ensures in
    let x = c.next_stamp-next.ensures in
    let w = narrow _ _ _ _ _ (λ t. e.stands_for (leb-true _ _ t)) _ _ _ c.one_of.ensures c.one_of-2.ensures c.narrowed.ensures in
    ready_walks _ _ _ _ _ _ _ e.refusal_value _ _ refl x.0 x.1 (inside _ _ _ _ _ _ _ c.patch_of-p.ensures) w

pub returns-clause-marks_after : goal.returns-clause-marks_after
unfolding code_of
returns-clause-marks_after c =
    let e = c.in_ok-count.ensures in
    let x = c.next_stamp-next.ensures in
    let w = narrow _ _ _ _ _ (λ t. e.stands_for (leb-true _ _ t)) _ _ _ c.one_of.ensures c.one_of-2.ensures c.narrowed.ensures in
    (bull_answers _ _ _ _ _ _ _ _ _ c.patch_of-p.ensures c.is_stand-stands.ensures c.is_corner-corner.ensures
    (height_answered _ _ _ _ _ _ _ e.refusal_value _ w _ _ _ _ refl x.0 x.1 c.walk_nose-s.ensures)).0

pub returns-clause-bull_promise : goal.returns-clause-bull_promise
unfolding code_of
returns-clause-bull_promise c =
    let e = c.in_ok-count.ensures in
    let x = c.next_stamp-next.ensures in
    let w = narrow _ _ _ _ _ (λ t. e.stands_for (leb-true _ _ t)) _ _ _ c.one_of.ensures c.one_of-2.ensures c.narrowed.ensures in
    (bull_answers _ _ _ _ _ _ _ _ _ c.patch_of-p.ensures c.is_stand-stands.ensures c.is_corner-corner.ensures
    (height_answered _ _ _ _ _ _ _ e.refusal_value _ w _ _ _ _ refl x.0 x.1 c.walk_nose-s.ensures)).1
