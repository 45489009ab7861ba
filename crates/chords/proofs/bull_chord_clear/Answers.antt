-- `chords::bull_chord_clear` meets its contract: refused as `ask::refusal` says, blocked at once, or the walk over the cells or the list that stands for them.
use Rattle.std.proofs.Common.{refl, sym}
use Rattle.std.proofs.lemmas.Result.{err_from_is_err_and}
use borrow.Author.Tests.{leb-true}
use Rattle.refusals.specs.Numbers.{code_of}
use Rattle.refusals.proofs.Named.{not_zero}
use Rattle.ask.proofs.Narrowing.{narrow}
use mathlib.Core.Bool.{Bool, true}
use Rattle.ask.proofs.Answers.{inside, ready, chord_refused, chord_early, chord_ruled}
use Rattle.walk.proofs.Marks.{all_tabled}
use Rattle.chords.proofs.Asking.{ended_is, bull_answers}
use Rattle.chords.proofs.bull_chord_clear.Goals as goal

pub refusal-requires : goal.refusal-requires
refusal-requires c = let i = inside _ _ _ _ _ _ _ c.patch_of-p.ensures in (i.0, i.1, refl)

pub returns-in_err-count-clause-marks_after : goal.returns-in_err-count-clause-marks_after
unfolding code_of
returns-in_err-count-clause-marks_after c =
    let p = err_from_is_err_and c.from_residual.result c.from_residual.ensures.1 in
    rw (p.1, p.2)
    (bull_answers _ _ _ _ _ _ _ _ _ _ _ c.patch_of-p.ensures c.is_ride-asked.ensures c.is_corner-corner.ensures
    (chord_refused _ _ _ _ _ _ _ c.in_err-count.ensures.refusal_value _ _ (not_zero _))).0

pub returns-in_err-count-clause-bull_chord_promise : goal.returns-in_err-count-clause-bull_chord_promise
unfolding code_of
returns-in_err-count-clause-bull_chord_promise c =
    let p = err_from_is_err_and c.from_residual.result c.from_residual.ensures.1 in
    rw (p.1, p.2)
    (bull_answers _ _ _ _ _ _ _ _ _ _ _ c.patch_of-p.ensures c.is_ride-asked.ensures c.is_corner-corner.ensures
    (chord_refused _ _ _ _ _ _ _ c.in_err-count.ensures.refusal_value _ _ (not_zero _))).1

pub returns-then-blocked_at_once-clause-marks_after : goal.returns-then-blocked_at_once-clause-marks_after
unfolding code_of
returns-then-blocked_at_once-clause-marks_after c =
    (bull_answers _ _ _ _ _ _ _ _ _ _ _ c.patch_of-p.ensures c.is_ride-asked.ensures c.is_corner-corner.ensures
    (ended_is _ _ _ _ c.blocked.ensures
    (chord_early _ _ _ _ _ _ _ c.in_ok-count.ensures.refusal_value _ _ refl (sym c.if-blocked_at_once.ensures)))).0

pub returns-then-blocked_at_once-clause-bull_chord_promise : goal.returns-then-blocked_at_once-clause-bull_chord_promise
unfolding code_of
returns-then-blocked_at_once-clause-bull_chord_promise c =
    (bull_answers _ _ _ _ _ _ _ _ _ _ _ c.patch_of-p.ensures c.is_ride-asked.ensures c.is_corner-corner.ensures
    (ended_is _ _ _ _ c.blocked.ensures
    (chord_early _ _ _ _ _ _ _ c.in_ok-count.ensures.refusal_value _ _ refl (sym c.if-blocked_at_once.ensures)))).1

pub chase-v-requires : goal.chase-v-requires
unfolding code_of
chase-v-requires c =
    let e = c.in_ok-count.ensures in
    let w = narrow _ _ _ _ _ (λ t. e.stands_for (leb-true _ _ t)) _ _ _ c.one_of.ensures c.one_of-2.ensures c.narrowed-cells.ensures in
    let r = ready _ _ _ _ _ _ _ e.refusal_value {A = Bool} _ _ true refl c.next_stamp-next.ensures.1 (inside _ _ _ _ _ _ _ c.patch_of-p.ensures) w in
    (r.1, r.2, all_tabled _ _ _ r.0 r.3)

pub returns-clause-marks_after : goal.returns-clause-marks_after
unfolding code_of
returns-clause-marks_after c =
    let e = c.in_ok-count.ensures in
    let w = narrow _ _ _ _ _ (λ t. e.stands_for (leb-true _ _ t)) _ _ _ c.one_of.ensures c.one_of-2.ensures c.narrowed-cells.ensures in
    let x = c.next_stamp-next.ensures in
    (bull_answers _ _ _ _ _ _ _ _ _ _ _ c.patch_of-p.ensures c.is_ride-asked.ensures c.is_corner-corner.ensures
    (chord_ruled _ _ _ _ _ _ _ e.refusal_value _ _ w _ _ _ _ _ refl (sym c.if-blocked_at_once.ensures) x.0 x.1 c.chase-v.ensures refl)).0

pub returns-clause-bull_chord_promise : goal.returns-clause-bull_chord_promise
unfolding code_of
returns-clause-bull_chord_promise c =
    let e = c.in_ok-count.ensures in
    let w = narrow _ _ _ _ _ (λ t. e.stands_for (leb-true _ _ t)) _ _ _ c.one_of.ensures c.one_of-2.ensures c.narrowed-cells.ensures in
    let x = c.next_stamp-next.ensures in
    (bull_answers _ _ _ _ _ _ _ _ _ _ _ c.patch_of-p.ensures c.is_ride-asked.ensures c.is_corner-corner.ensures
    (chord_ruled _ _ _ _ _ _ _ e.refusal_value _ _ w _ _ _ _ _ refl (sym c.if-blocked_at_once.ensures) x.0 x.1 c.chase-v.ensures refl)).1
