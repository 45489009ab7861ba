-- `setup::refusal`, rung by rung.
use Rattle.std.proofs.Common.{◌≡◌, refl, sym, ◌∙◌}
use Rattle.rules.proofs.Ladder.{demand_here, demand_next}
use Rattle.refusals.specs.Numbers.{code_of, number_of}
use Rattle.setup.specs.Answer.{refusal_of}
use Rattle.setup.proofs.Answering.{marked_is}
use Rattle.setup.proofs.refusal.Goals as goal

pub returns-then-not-is_marked : goal.returns-then-not-is_marked
unfolding refusal_of code_of number_of
returns-then-not-is_marked c = demand_here _ 1 _ 1 (sym c.is_marked.ensures ∙ c.if-not-is_marked.true) refl

pub returns-then-not-is_question : goal.returns-then-not-is_question
unfolding refusal_of code_of number_of
returns-then-not-is_question c =
    demand_next _ 1 _ 2 (sym c.is_marked.ensures ∙ c.if-not-is_marked.false)
    (demand_here _ 2 _ 2 (sym c.is_question.ensures ∙ c.if-not-is_question.true) refl)

pub returns-then-not-head_usable : goal.returns-then-not-head_usable
unfolding refusal_of code_of number_of
returns-then-not-head_usable c =
    demand_next _ 1 _ 7 (sym c.is_marked.ensures ∙ c.if-not-is_marked.false)
    (demand_next _ 2 _ 7 (sym c.is_question.ensures ∙ c.if-not-is_question.false)
    (demand_here _ 7 _ 7 (sym c.head_usable.ensures ∙ c.if-not-head_usable.true) refl))

pub reach_of-requires : goal.reach_of-requires
reach_of-requires c = sym c.is_question.ensures ∙ c.if-not-is_question.false

pub refusal_of_tables-requires : goal.refusal_of_tables-requires
refusal_of_tables-requires c = (
  (marked_is _ _ (sym c.is_marked.ensures ∙ c.if-not-is_marked.false)).1,
  sym c.head_usable.ensures ∙ c.if-not-head_usable.false,
  c.reach_of.ensures.1,
)

pub returns : goal.returns
unfolding refusal_of
returns c =
    demand_next _ 1 _ _ (sym c.is_marked.ensures ∙ c.if-not-is_marked.false)
    (demand_next _ 2 _ _ (sym c.is_question.ensures ∙ c.if-not-is_question.false)
    (demand_next _ 7 _ _ (sym c.head_usable.ensures ∙ c.if-not-head_usable.false)
    (rw (← c.reach_of.ensures.0) c.refusal_of_tables.ensures)))
