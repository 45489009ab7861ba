use Rattle.std.proofs.Common.{rules, ◌≡◌, length}
use Rattle.refusals.specs.Numbers.{code_of}
use Rattle.refusals.proofs.Named.{passed_on}
use Rattle.plan.proofs.Surveying.{surveyed_refused, surveyed_passed}
use Rattle.plan.proofs.survey.Goals as goal

pub returns-in_err-refusal_of_levels : goal.returns-in_err-refusal_of_levels
unfolding code_of
returns-in_err-refusal_of_levels c =
    let f = c.find_levels-count.ensures in
    let l : length c.find_levels-count.new.list ≡ length c.args.marks.now = search rules in
    let e = passed_on c.from_residual.result c.in_err-refusal_of_levels.field-0.0 c.from_residual.ensures.1 in
    surveyed_refused _ _ _ _ _ _ c.args.marks.now c.find_levels-count.new.list _ _ f.0 f.1 l c.wipe.ensures _ _ e c.in_err-refusal_of_levels.ensures

pub returns : goal.returns
unfolding code_of
returns c =
    let f = c.find_levels-count.ensures in
    let l : length c.find_levels-count.new.list ≡ length c.args.marks.now = search rules in
    surveyed_passed _ _ _ _ _ _ c.args.marks.now c.find_levels-count.new.list _ _ f.0 f.1 l c.wipe.ensures c.in_ok-refusal_of_levels.ensures
