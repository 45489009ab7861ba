-- `tips::max_sections` meets its contract: refused as `ask::refusal` says, or the walk over the cells or the list that stands for them.
use Rattle.std.proofs.Common.{refl}
use Rattle.std.proofs.lemmas.Result.{err_from_is_err_and}
use borrow.Author.Tests.{leb-true}
use Rattle.refusals.specs.Numbers.{code_of}
use Rattle.refusals.proofs.Named.{not_zero}
use Rattle.ask.proofs.Narrowing.{narrow}
use Rattle.ask.specs.Ask.{at_floor}
use Rattle.ask.proofs.Answers.{inside, ready, height_refused, height_answered}
use Rattle.numbers.specs.Reals.{f0}
use Rattle.plane.specs.declared.Best.{Best}
use Rattle.walk.proofs.Marks.{all_tabled}
use Rattle.tips.specs.Contact.{tool_step}
use Rattle.tips.proofs.Asking.{tool_answers}
use Rattle.tips.proofs.max_sections.Goals as goal

pub refusal-requires : goal.refusal-requires
refusal-requires c = let i = inside _ _ _ _ _ _ _ c.patch_of-p.ensures in (i.0, i.1, refl)

pub returns-in_err-count-clause-marks_after : goal.returns-in_err-count-clause-marks_after
unfolding code_of
returns-in_err-count-clause-marks_after c =
    let p = err_from_is_err_and c.from_residual.result c.from_residual.ensures.1 in
    rw (p.1, p.2)
    (tool_answers _ _ _ _ _ _ _ _ _ _ _ _ _ c.widest-reach.ensures c.lowest-low.ensures c.patch_of-p.ensures c.is_place-stands.ensures c.is_tool-valid.ensures
    (height_refused _ _ _ _ _ _ _ c.in_err-count.ensures.refusal_value _ (not_zero _))).0

pub returns-in_err-count-clause-sections_promise : goal.returns-in_err-count-clause-sections_promise
unfolding code_of
returns-in_err-count-clause-sections_promise c =
    let p = err_from_is_err_and c.from_residual.result c.from_residual.ensures.1 in
    rw (p.1, p.2)
    (tool_answers _ _ _ _ _ _ _ _ _ _ _ _ _ c.widest-reach.ensures c.lowest-low.ensures c.patch_of-p.ensures c.is_place-stands.ensures c.is_tool-valid.ensures
    (height_refused _ _ _ _ _ _ _ c.in_err-count.ensures.refusal_value _ (not_zero _))).1

pub visit-s-requires : goal.visit-s-requires
unfolding code_of
visit-s-requires c =
    let e = c.in_ok-count.ensures in
    let x = c.next_stamp-next.ensures in
    let w = narrow _ _ _ _ _ (λ t. e.stands_for (leb-true _ _ t)) _ _ _ c.one_of.ensures c.one_of-2.ensures c.narrowed-cells.ensures in
    let r = ready _ _ _ _ _ _ _ e.refusal_value {A = Best} _ _ (at_floor f0) refl x.1 (inside _ _ _ _ _ _ _ c.patch_of-p.ensures) w in
    (r.1, r.2, all_tabled _ _ _ r.0 r.3, tt)

pub returns-clause-marks_after : goal.returns-clause-marks_after
unfolding code_of tool_step
returns-clause-marks_after c =
    let e = c.in_ok-count.ensures in
    let x = c.next_stamp-next.ensures in
    let w = narrow _ _ _ _ _ (λ t. e.stands_for (leb-true _ _ t)) _ _ _ c.one_of.ensures c.one_of-2.ensures c.narrowed-cells.ensures in
    (tool_answers _ _ _ _ _ _ _ _ _ _ _ _ _ c.widest-reach.ensures c.lowest-low.ensures c.patch_of-p.ensures c.is_place-stands.ensures c.is_tool-valid.ensures
    (height_answered _ _ _ _ _ _ _ e.refusal_value _ w _ _ _ _ refl x.0 x.1 c.visit-s.ensures.0)).0

pub returns-clause-sections_promise : goal.returns-clause-sections_promise
unfolding code_of tool_step
returns-clause-sections_promise c =
    let e = c.in_ok-count.ensures in
    let x = c.next_stamp-next.ensures in
    let w = narrow _ _ _ _ _ (λ t. e.stands_for (leb-true _ _ t)) _ _ _ c.one_of.ensures c.one_of-2.ensures c.narrowed-cells.ensures in
    (tool_answers _ _ _ _ _ _ _ _ _ _ _ _ _ c.widest-reach.ensures c.lowest-low.ensures c.patch_of-p.ensures c.is_place-stands.ensures c.is_tool-valid.ensures
    (height_answered _ _ _ _ _ _ _ e.refusal_value _ w _ _ _ _ refl x.0 x.1 c.visit-s.ensures.0)).1
