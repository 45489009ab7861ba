use mathlib.Core.Path.{◌≡◌, refl, ◌∙◌}
use native.Mathlib.Omega.{arith}
use Rattle.std.proofs.Common.{rules, Err}
use Rattle.refusals.specs.Numbers.{code_of}
use Rattle.refusals.proofs.Named.{refused}
use Rattle.job.proofs.Reading.{refused_first, refused_last, head_whole, last_told}
use Rattle.job.proofs.refusal.Goals as goal

pub returns-in_err-refusal_of_head-clause-number : goal.returns-in_err-refusal_of_head-clause-number
returns-in_err-refusal_of_head-clause-number c =
    let e : c.from_residual.result ≡ Err c.in_err-refusal_of_head.field-0.0 = search rules in
    rw e (refused_first _ _ _ _ c.in_err-refusal_of_head.ensures.number (refused _ c.in_err-refusal_of_head.field-0.0))

pub u32_at-n-requires : goal.u32_at-n-requires
unfolding code_of
u32_at-n-requires c = omega (arith, (head_whole _ _ _ _ c.in_ok-refusal_of_head.ensures.number refl).whole)

pub u32_at-m-requires : goal.u32_at-m-requires
unfolding code_of
u32_at-m-requires c = omega (arith, (head_whole _ _ _ _ c.in_ok-refusal_of_head.ensures.number refl).whole)

pub refusal_of_numbers-requires : goal.refusal_of_numbers-requires
unfolding code_of
refusal_of_numbers-requires c =
    omega (arith, (head_whole _ _ _ _ c.in_ok-refusal_of_head.ensures.number refl).whole, c.u32_at-n.ensures, c.u32_at-m.ensures)

pub returns-clause-number : goal.returns-clause-number
unfolding code_of
returns-clause-number c =
    refused_last _ _ _ _ c.in_ok-refusal_of_head.ensures.number refl _ _ _ c.u32_at-n.ensures c.u32_at-m.ensures c.refusal_of_numbers.ensures.number

pub returns-clause-whole : goal.returns-clause-whole
returns-clause-whole c = c.refusal_of_numbers.ensures.nothing ∙ last_told _ _ _ c.refusal_of_numbers.ensures.number
