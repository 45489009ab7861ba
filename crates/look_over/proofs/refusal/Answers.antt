use Rattle.std.proofs.Common.{refl, sym}
use Rattle.refusals.specs.Numbers.{code_of}
use Rattle.refusals.proofs.Named.{not_zero, passed_on}
use Rattle.paths.proofs.Ladder.{sound}
use Rattle.look_over.proofs.Looking.{file_refused, file_passed}
use Rattle.look_over.proofs.refusal.Goals as goal

pub returns-in_err-refusal : goal.returns-in_err-refusal
unfolding code_of
returns-in_err-refusal c =
    let p = passed_on c.from_residual.result c.in_err-refusal.field-0.0 c.from_residual.ensures.1 in
    rw p (file_refused _ _ _ _ _ _ c.in_err-refusal.ensures.value (not_zero _))

pub refusal_of_numbers-requires : goal.refusal_of_numbers-requires
unfolding code_of
refusal_of_numbers-requires c = sound _ (sym c.in_ok-refusal.ensures.value)

pub returns : goal.returns
unfolding code_of
returns c = file_passed _ _ _ _ _ _ c.in_ok-refusal.ensures.value _ (refl) c.refusal_of_numbers.ensures
