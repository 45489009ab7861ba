use Rattle.std.proofs.Common.{refl, sym}
use Rattle.refusals.specs.Numbers.{code_of}
use Rattle.refusals.proofs.Named.{not_zero, passed_on}
use Rattle.grid.specs.Index.{index_of}
use Rattle.look_over.proofs.Looking.{passed, judged_is, own_cuts, look_refused, look_judged}
use Rattle.look_over.proofs.look_over.Goals as goal

pub returns-in_err-refusal : goal.returns-in_err-refusal
unfolding code_of
returns-in_err-refusal c =
    let a = c.args in
    let ix = index_of a.mesh.now a.h a.starts.now a.members.now a.boxes.now in
    let p = passed_on c.from_residual.result c.in_err-refusal.field-0.0 c.from_residual.ensures.1 in
    rw p (record {
      marks_after = look_refused _ ix _ _ _ _ c.in_err-refusal.ensures (not_zero _);
      judged = λ z. absurd (not_zero _ z);
      own_cuts_pass = own_cuts a.bytes.now ix a.marks.now a.table.now a.tolerance;
    })

pub work-requires : goal.work-requires
unfolding code_of
work-requires c =
    let a = c.args in
    let r = passed a.bytes.now (index_of a.mesh.now a.h a.starts.now a.members.now a.boxes.now) a.marks.now a.table.now a.tolerance (sym c.in_ok-refusal.ensures) in
    (r.readable, r.answerable, r.size)

pub returns : goal.returns
unfolding code_of
returns c =
    let a = c.args in
    let ix = index_of a.mesh.now a.h a.starts.now a.members.now a.boxes.now in
    let w = c.work.ensures in
    record {
      marks_after = look_judged _ ix a.marks.now _ _ _ c.in_ok-refusal.ensures _ _ refl w.0 w.1;
      judged = λ z. judged_is _ ix a.marks.now _ _ _ w.0;
      own_cuts_pass = own_cuts a.bytes.now ix a.marks.now a.table.now a.tolerance;
    }
