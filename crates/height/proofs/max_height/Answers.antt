-- `height::max_height` meets its contract: refused as `ask::refusal` says, or the walk over the cells or the list that stands for them.
use Rattle.std.proofs.Common.{refl, ◌∙◌}
use Rattle.std.proofs.lemmas.Result.{err_from_is_err_and}
use borrow.Author.Tests.{leb-true}
use Rattle.refusals.specs.Numbers.{code_of}
use Rattle.refusals.proofs.Named.{not_zero}
use Rattle.ask.proofs.Narrowing.{narrow}
use Rattle.ask.proofs.Answers.{inside}
use Rattle.height.proofs.Answering.{may_sweep, sweep_narrow, refused, answered}
use Rattle.height.proofs.max_height.Goals as goal

pub refusal-requires : goal.refusal-requires
refusal-requires c = let i = inside _ _ _ _ _ _ _ c.patch_of-p.ensures in (i.0, i.1, refl)

pub returns-in_err-count-clause-marks_after : goal.returns-in_err-count-clause-marks_after
unfolding code_of
returns-in_err-count-clause-marks_after c =
    let p = err_from_is_err_and c.from_residual.result c.from_residual.ensures.1 in
    rw (p.1, p.2) (refused _ _ _ _ _ _ c.in_err-count.ensures.refusal_value _ c.patch_of-p.ensures c.is_sweep-asked.ensures (not_zero _)).0

pub returns-in_err-count-clause-disk_promise : goal.returns-in_err-count-clause-disk_promise
unfolding code_of
returns-in_err-count-clause-disk_promise c =
    let p = err_from_is_err_and c.from_residual.result c.from_residual.ensures.1 in
    rw (p.1, p.2) (refused _ _ _ _ _ _ c.in_err-count.ensures.refusal_value _ c.patch_of-p.ensures c.is_sweep-asked.ensures (not_zero _)).1

pub sweep_in-s-requires : goal.sweep_in-s-requires
unfolding code_of
sweep_in-s-requires c =
    let e = c.in_ok-count.ensures in
    let i = inside _ _ _ _ _ _ _ c.patch_of-p.ensures in
    let w = narrow _ _ _ _ _ (λ t. e.stands_for (leb-true _ _ t)) _ _ _ c.one_of.ensures c.one_of-2.ensures c.narrowed.ensures in
    may_sweep _ _ _ _ _ _ e.refusal_value w refl i.0 i.1

pub returns-clause-marks_after : goal.returns-clause-marks_after
unfolding code_of
returns-clause-marks_after c =
    let e = c.in_ok-count.ensures in
    let s = c.sweep_in-s.ensures in
    let w = narrow _ _ _ _ _ (λ t. e.stands_for (leb-true _ _ t)) _ _ _ c.one_of.ensures c.one_of-2.ensures c.narrowed.ensures in
    (answered _ _ _ _ _ _ e.refusal_value _ c.patch_of-p.ensures c.is_sweep-asked.ensures refl _ _ _ c.capsule_of.ensures
    (s.0 ∙ sweep_narrow _ _ _ _ _ _ e.refusal_value w refl _) s.1).0

pub returns-clause-disk_promise : goal.returns-clause-disk_promise
unfolding code_of
returns-clause-disk_promise c =
    let e = c.in_ok-count.ensures in
    let s = c.sweep_in-s.ensures in
    let w = narrow _ _ _ _ _ (λ t. e.stands_for (leb-true _ _ t)) _ _ _ c.one_of.ensures c.one_of-2.ensures c.narrowed.ensures in
    (answered _ _ _ _ _ _ e.refusal_value _ c.patch_of-p.ensures c.is_sweep-asked.ensures refl _ _ _ c.capsule_of.ensures
    (s.0 ∙ sweep_narrow _ _ _ _ _ _ e.refusal_value w refl _) s.1).1
