use Rattle.refusals.specs.Numbers.{code_of}
use Rattle.refusals.proofs.Named.{passed_on}
use Rattle.moves.proofs.Following.{begin_refused, begin_goes}
use Rattle.moves.proofs.begin.Goals as goal

pub returns-in_err-refusal_of_begin : goal.returns-in_err-refusal_of_begin
unfolding code_of
returns-in_err-refusal_of_begin c =
    let q = passed_on c.from_residual.result c.in_err-refusal_of_begin.field-0.0 c.from_residual.ensures.1 in
    let (v, f) = begin_refused _ _ _ _ _ _ q c.in_err-refusal_of_begin.ensures in
    record { value = v; followed = f }

pub returns : goal.returns
unfolding code_of
returns c =
    let (v, f) = begin_goes _ _ _ _ _ c.in_ok-refusal_of_begin.ensures c.state_at.ensures in
    record { value = v; followed = f }
