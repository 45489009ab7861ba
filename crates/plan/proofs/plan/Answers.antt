use Rattle.std.proofs.Common.{sym}
use Rattle.refusals.specs.Numbers.{code_of}
use Rattle.refusals.proofs.Named.{passed_on}
use Rattle.plan.proofs.Answering.{passed, input_refused, input_passed, never_seven}
use Rattle.plan.proofs.Losing.{lost_none}
use Rattle.plan.proofs.plan.Goals as goal

pub returns-in_err-refusal : goal.returns-in_err-refusal
unfolding code_of
returns-in_err-refusal c =
    let p = passed_on c.from_residual.result c.in_err-refusal.field-0.0 c.from_residual.ensures.1 in
    let e = input_refused _ _ _ _ _ _ _ _ p c.in_err-refusal.ensures in
    record {
      marks_after = e;
      never_seven = never_seven _ _ _ _ _ _ _ _ _ _ e;
      nothing_lost = lost_none _ _ _ _ _ _ _ _ _ _ e;
    }

pub work-requires : goal.work-requires
unfolding code_of
work-requires c = passed _ _ _ (sym c.in_ok-refusal.ensures)

pub returns : goal.returns
unfolding code_of
returns c =
    let e = input_passed _ _ _ _ _ _ _ c.in_ok-refusal.ensures c.work.ensures in
    record {
      marks_after = e;
      never_seven = never_seven _ _ _ _ _ _ _ _ _ _ e;
      nothing_lost = lost_none _ _ _ _ _ _ _ _ _ _ e;
    }
