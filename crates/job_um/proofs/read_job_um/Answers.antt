use mathlib.Core.Path.{◌≡◌, refl}
use native.Mathlib.Omega.{arith}
use Rattle.std.proofs.Common.{rules, Err}
use Rattle.refusals.specs.Numbers.{code_of}
use Rattle.job_um.specs.Reader.{told, ended}
use Rattle.job_um.proofs.Reading.{refused_told, accepted_is, counts_within, ready, exactly, promised}
use Rattle.job_um.proofs.read_job_um.Goals as goal

pub returns-in_err-refusal_of_head-clause-questions_after : goal.returns-in_err-refusal_of_head-clause-questions_after
returns-in_err-refusal_of_head-clause-questions_after c =
    let e : c.from_residual.result ≡ Err c.in_err-refusal_of_head.field-0.0 = search rules in
    rw e (refused_told _ _ _ _ _ c.in_err-refusal_of_head.ensures.number c.in_err-refusal_of_head.ensures.whole)

pub returns-in_err-refusal_of_head-clause-sound_exactly : goal.returns-in_err-refusal_of_head-clause-sound_exactly
returns-in_err-refusal_of_head-clause-sound_exactly c =
    exactly _ _ _ (ended (told c.from_residual.result) _ _) (returns-in_err-refusal_of_head-clause-questions_after c)

pub returns-in_err-refusal_of_head-clause-accepted_promise : goal.returns-in_err-refusal_of_head-clause-accepted_promise
returns-in_err-refusal_of_head-clause-accepted_promise c =
    promised _ _ _ (ended (told c.from_residual.result) _ _) (returns-in_err-refusal_of_head-clause-questions_after c)

pub u32_at-requires : goal.u32_at-requires
unfolding code_of
u32_at-requires c = omega (arith, counts_within _ c.args.mesh.now c.args.questions.now _ c.in_ok-refusal_of_head.ensures.number refl)

pub u32_at-requires-2 : goal.u32_at-requires-2
unfolding code_of
u32_at-requires-2 c = counts_within _ c.args.mesh.now c.args.questions.now _ c.in_ok-refusal_of_head.ensures.number refl

pub decoded-requires : goal.decoded-requires
unfolding code_of
decoded-requires c = ready _ c.args.mesh.now c.args.questions.now _ c.in_ok-refusal_of_head.ensures.number refl _ _ c.u32_at.ensures c.u32_at-2.ensures

pub returns-clause-questions_after : goal.returns-clause-questions_after
unfolding code_of
returns-clause-questions_after c =
    accepted_is _ _ _ _ c.in_ok-refusal_of_head.ensures.number refl _ _ _ c.u32_at.ensures c.u32_at-2.ensures c.decoded.ensures

pub returns-clause-sound_exactly : goal.returns-clause-sound_exactly
returns-clause-sound_exactly c = exactly _ _ _ _ (returns-clause-questions_after c)

pub returns-clause-accepted_promise : goal.returns-clause-accepted_promise
returns-clause-accepted_promise c = promised _ _ _ _ (returns-clause-questions_after c)
