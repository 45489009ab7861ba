-- `chords::sections_chord_clear` meets its contract: refused as `ask::refusal` says, or ruled over the cells or the list that stands for them.
use Rattle.std.proofs.Common.{refl}
use Rattle.std.proofs.lemmas.Result.{err_from_is_err_and}
use borrow.Author.Tests.{leb-true}
use Rattle.refusals.specs.Numbers.{code_of}
use Rattle.refusals.proofs.Named.{not_zero}
use Rattle.ask.proofs.Narrowing.{narrow}
use mathlib.Core.Path.{◌∙◌}
use Rattle.ask.proofs.Answers.{inside, chord_refused}
use Rattle.chords.proofs.Asking.{tool_answers, ruled_asked, accepted_ready, ruled_narrow}
use Rattle.chords.proofs.sections_chord_clear.Goals as goal

pub refusal-requires : goal.refusal-requires
refusal-requires c = let i = inside _ _ _ _ _ _ _ c.patch_of-p.ensures in (i.0, i.1, refl)

pub returns-in_err-count-clause-marks_after : goal.returns-in_err-count-clause-marks_after
unfolding code_of
returns-in_err-count-clause-marks_after c =
    let p = err_from_is_err_and c.from_residual.result c.from_residual.ensures.1 in
    rw (p.1, p.2)
    (tool_answers _ _ _ _ _ _ _ _ _ _ _ _ c.widest-reach.ensures c.lowest-low.ensures c.patch_of-p.ensures c.is_chord-asked.ensures c.is_tool-valid.ensures
    (chord_refused _ _ _ _ _ _ _ c.in_err-count.ensures.refusal_value _ _ (not_zero _))).0

pub returns-in_err-count-clause-sections_chord_promise : goal.returns-in_err-count-clause-sections_chord_promise
unfolding code_of
returns-in_err-count-clause-sections_chord_promise c =
    let p = err_from_is_err_and c.from_residual.result c.from_residual.ensures.1 in
    rw (p.1, p.2)
    (tool_answers _ _ _ _ _ _ _ _ _ _ _ _ c.widest-reach.ensures c.lowest-low.ensures c.patch_of-p.ensures c.is_chord-asked.ensures c.is_tool-valid.ensures
    (chord_refused _ _ _ _ _ _ _ c.in_err-count.ensures.refusal_value _ _ (not_zero _))).1

pub tool_ruling-requires : goal.tool_ruling-requires
unfolding code_of
tool_ruling-requires c =
    let e = c.in_ok-count.ensures in
    let w = narrow _ _ _ _ _ (λ t. e.stands_for (leb-true _ _ t)) _ _ _ c.one_of.ensures c.one_of-2.ensures c.narrowed.ensures in
    accepted_ready _ _ _ _ _ _ _ e.refusal_value refl w (inside _ _ _ _ _ _ _ c.patch_of-p.ensures)

pub returns-clause-marks_after : goal.returns-clause-marks_after
unfolding code_of
returns-clause-marks_after c =
    let e = c.in_ok-count.ensures in
    let w = narrow _ _ _ _ _ (λ t. e.stands_for (leb-true _ _ t)) _ _ _ c.one_of.ensures c.one_of-2.ensures c.narrowed.ensures in
    (tool_answers _ _ _ _ _ _ _ _ _ _ _ _ c.widest-reach.ensures c.lowest-low.ensures c.patch_of-p.ensures c.is_chord-asked.ensures c.is_tool-valid.ensures
    (ruled_asked _ _ _ _ _ _ _ _ _ _ e.refusal_value refl (c.tool_ruling.ensures ∙ ruled_narrow _ _ _ _ _ _ _ e.refusal_value refl w _ _))).0

pub returns-clause-sections_chord_promise : goal.returns-clause-sections_chord_promise
unfolding code_of
returns-clause-sections_chord_promise c =
    let e = c.in_ok-count.ensures in
    let w = narrow _ _ _ _ _ (λ t. e.stands_for (leb-true _ _ t)) _ _ _ c.one_of.ensures c.one_of-2.ensures c.narrowed.ensures in
    (tool_answers _ _ _ _ _ _ _ _ _ _ _ _ c.widest-reach.ensures c.lowest-low.ensures c.patch_of-p.ensures c.is_chord-asked.ensures c.is_tool-valid.ensures
    (ruled_asked _ _ _ _ _ _ _ _ _ _ e.refusal_value refl (c.tool_ruling.ensures ∙ ruled_narrow _ _ _ _ _ _ _ e.refusal_value refl w _ _))).1
