-- `ask::refusal` meets its contract: a good question is one that no test of the ladder refuses.
use Rattle.std.proofs.Common.{refl, sym}
use Rattle.rules.proofs.Ladder.{demand_here, demand_next}
use Rattle.refusals.specs.Numbers.{number_of, code_of}
use Rattle.ask.specs.Ask.{refusal_of}
use Rattle.ask.proofs.Answers.{marked_is, boxed_is}
use Rattle.ask.proofs.Demands.{good_is_accepted}
use Rattle.ask.proofs.refusal.Goals as goal

pub returns-then-not-is_marked-clause-good_accepted : goal.returns-then-not-is_marked-clause-good_accepted
unfolding refusal_of code_of number_of
returns-then-not-is_marked-clause-good_accepted c =
    good_is_accepted _ _ _ _ _ c.args.p c.requires.0 c.requires.1 _ (demand_here _ _ _ _ (sym c.if-not-is_marked.ensures) refl)

pub returns-then-not-is_boxed-clause-good_accepted : goal.returns-then-not-is_boxed-clause-good_accepted
unfolding refusal_of code_of number_of
returns-then-not-is_boxed-clause-good_accepted c =
    good_is_accepted _ _ _ _ _ c.args.p c.requires.0 c.requires.1 _
    (demand_next _ _ _ _ (sym c.if-not-is_marked.ensures) (demand_here _ _ _ _ (sym c.if-not-is_boxed.ensures) refl))

pub usable-requires : goal.usable-requires
usable-requires c =
    let m = marked_is _ _ (sym c.if-not-is_marked.ensures) in
    let r = c.requires in
    (m.nine, r.0, r.1, boxed_is _ _ _ m (sym c.if-not-is_boxed.ensures), r.2)

pub returns-in-None-clause-good_accepted : goal.returns-in-None-clause-good_accepted
unfolding refusal_of code_of number_of
returns-in-None-clause-good_accepted c =
    good_is_accepted _ _ _ _ _ c.args.p c.requires.0 c.requires.1 _
    (demand_next _ _ _ _ (sym c.if-not-is_marked.ensures)
    (demand_next _ _ _ _ (sym c.if-not-is_boxed.ensures)
    (demand_next _ _ _ _ c.if-not-numbers.false
    (demand_next _ _ _ _ c.if-not-tool.false (demand_here _ _ _ _ (sym c.in-None.ensures.usable_value) refl)))))
