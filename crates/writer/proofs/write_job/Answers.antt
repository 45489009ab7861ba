use mathlib.Core.Path.{◌≡◌, refl}
use native.Mathlib.Omega.{arith}
use denote.Floats.{passes}
use Rattle.std.proofs.Common.{rules, Err}
use Rattle.refusals.specs.Numbers.{code_of}
use Rattle.refusals.proofs.Named.{numbered}
use Rattle.writer.specs.Writer.{told, ended}
use Rattle.writer.proofs.Writing.{refused_told, accepted_is, ready}
use Rattle.writer.proofs.Back.{all_fit, reads_back}
use Rattle.writer.proofs.Again.{writes_again}
use Rattle.writer.proofs.write_job.Goals as goal

pub returns-in_err-refusal-clause-bytes_after : goal.returns-in_err-refusal-clause-bytes_after
returns-in_err-refusal-clause-bytes_after c =
    let e : c.from_residual.result ≡ Err c.in_err-refusal.field-0.0 = search rules in
    rw e (refused_told _ _ _ _ _ _ _ c.in_err-refusal.ensures)

pub returns-in_err-refusal-clause-reads_back : goal.returns-in_err-refusal-clause-reads_back
unfolding code_of
returns-in_err-refusal-clause-reads_back c =
    let e : c.from_residual.result ≡ Err c.in_err-refusal.field-0.0 = search rules in
    rw e (λ z. absurd (omega (arith, numbered c.in_err-refusal.field-0.0)))

pub returns-in_err-refusal-clause-writes_again : goal.returns-in_err-refusal-clause-writes_again
returns-in_err-refusal-clause-writes_again c =
    writes_again _ _ _ _ _ (ended (told c.from_residual.result) _) (returns-in_err-refusal-clause-bytes_after c)

pub put_job-requires-clause-mesh_len_bound : goal.put_job-requires-clause-mesh_len_bound
unfolding code_of
put_job-requires-clause-mesh_len_bound c =
    let a = c.args in
    let r = ready a.mesh.now a.floor a.radius a.questions.now a.bytes.now _ c.in_ok-refusal.ensures refl in
    (r.few, r.few_questions)

pub put_job-requires-clause-questions_in_bounds : goal.put_job-requires-clause-questions_in_bounds
unfolding code_of
put_job-requires-clause-questions_in_bounds c =
    let a = c.args in
    let r = ready a.mesh.now a.floor a.radius a.questions.now a.bytes.now _ c.in_ok-refusal.ensures refl in
    omega (arith, r.fits, r.nine, r.five)

pub put_job-requires-clause-questions_value : goal.put_job-requires-clause-questions_value
unfolding code_of
put_job-requires-clause-questions_value c =
    let a = c.args in
    (ready a.mesh.now a.floor a.radius a.questions.now a.bytes.now _ c.in_ok-refusal.ensures refl).finite_all

pub size-requires : goal.size-requires
unfolding code_of
size-requires c =
    let a = c.args in
    let r = ready a.mesh.now a.floor a.radius a.questions.now a.bytes.now _ c.in_ok-refusal.ensures refl in
    (r.few, r.few_questions)

pub returns-clause-bytes_after : goal.returns-clause-bytes_after
unfolding code_of
returns-clause-bytes_after c =
    let a = c.args in
    accepted_is a.mesh.now a.floor a.radius a.questions.now a.bytes.now _ c.in_ok-refusal.ensures refl _ _ c.size.ensures c.put_job.ensures

pub returns-clause-reads_back : goal.returns-clause-reads_back
returns-clause-reads_back c =
    let a = c.args in
    reads_back a.mesh.now a.floor a.radius a.questions.now a.bytes.now
    (all_fit a.mesh.now a.floor a.radius a.questions.now (passes _ c.well_formed.1.0.1) (passes _ c.well_formed.1.1.0.1) c.type_inv.mesh c.type_inv.questions)
    _ (returns-clause-bytes_after c)

pub returns-clause-writes_again : goal.returns-clause-writes_again
returns-clause-writes_again c = writes_again _ _ _ _ _ _ (returns-clause-bytes_after c)
