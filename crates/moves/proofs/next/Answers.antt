use Rattle.std.proofs.Common.{sym, ◌∙◌}
use Rattle.refusals.specs.Numbers.{code_of}
use Rattle.refusals.proofs.Named.{passed_on as handed}
use Rattle.moves.proofs.Going.{state_passes, next_refused, next_goes}
use Rattle.moves.proofs.next.Goals as goal

pub returns-in_err-refusal_of_state : goal.returns-in_err-refusal_of_state
unfolding code_of
returns-in_err-refusal_of_state c =
    let q = handed c.from_residual.result c.in_err-refusal_of_state.field-0.0 c.from_residual.ensures.1 in
    next_refused _ _ _ _ _ q c.in_err-refusal_of_state.ensures

pub go_on-requires : goal.go_on-requires
unfolding code_of
go_on-requires c =
    let (w, f) = state_passes _ _ (sym c.in_ok-refusal_of_state.ensures) in
    record { s_value = w; s_value_2 = f }

pub returns : goal.returns
unfolding code_of
returns c = c.go_on.ensures ∙ next_goes _ _ _ c.in_ok-refusal_of_state.ensures
