-- `checked::rises`: a number that is too low, too high or outside ends the search, and the next one goes on.
use Rattle.std.proofs.Common.{◌≡◌, ℕ, ◌∙◌, arith}
use Rattle.cells.specs.Cover.{covers}
use Rattle.rules.proofs.Branches.{bool_called}
use Rattle.checked.specs.Inside.{box_covers}
use Rattle.checked.proofs.Counting.{too_low_lem, too_high, outside, goes_on, at_end}
use Rattle.checked.proofs.rises.Goals as goal

pub returns-then-i-low : goal.returns-then-i-low
returns-then-i-low c =
    let a = c.args in
    too_low_lem (λ (i : ℕ). box_covers a.boxes.now a.g i a.c) a.n c.loop-member.low c.loop-member.member-index a.part.now c.loop-member-test.true
    c.if-i-low.true ∙ c.loop-member.invariant

pub returns-then-n-i : goal.returns-then-n-i
returns-then-n-i c =
    let a = c.args in
    too_high (λ (i : ℕ). box_covers a.boxes.now a.g i a.c) a.n c.loop-member.low c.loop-member.member-index a.part.now c.loop-member-test.true
    c.if-n-i.true ∙ c.loop-member.invariant

pub returns-then-not-covers : goal.returns-then-not-covers
unfolding covers
returns-then-not-covers c =
    let a = c.args in
    outside (λ (i : ℕ). box_covers a.boxes.now a.g i a.c) a.n c.loop-member.low c.loop-member.member-index a.part.now c.loop-member-test.true
    (bool_called _ _ _ c.covers.ensures c.if-not-covers.true) ∙ c.loop-member.invariant

pub loop-member-preserved : goal.loop-member-preserved
unfolding covers
loop-member-preserved c =
    let a = c.args in
    goes_on (λ (i : ℕ). box_covers a.boxes.now a.g i a.c) a.n c.loop-member.low c.loop-member.member-index a.part.now c.loop-member-test.true
    (omega (arith, c.if-i-low.false)) (omega (arith, c.if-n-i.false)) (bool_called _ _ _ c.covers.ensures c.if-not-covers.false) ∙ c.loop-member.invariant

pub returns : goal.returns
returns c =
    let a = c.args in
    at_end (λ (i : ℕ). box_covers a.boxes.now a.g i a.c) a.n c.loop-member.low c.loop-member.member-index a.part.now
    (omega (arith, c.loop-member-test.false)) ∙ c.loop-member.invariant
