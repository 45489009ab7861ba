-- `setup::setup_height`: refused, or what the walk found; and what that promises.
use Rattle.std.proofs.Common.{rules, ◌≡◌, refl, sym, ◌∙◌, arith}
use Rattle.refusals.specs.Numbers.{code_of}
use Rattle.setup.specs.Answer.{told}
use Rattle.setup.proofs.Answering.{refused_err, told_height, stands, may_walk, answered}
use Rattle.setup.proofs.Promising.{setup_promise}
use Rattle.setup.proofs.setup_height.Goals as goal

pub returns-in_err-refusal-clause-marks_after : goal.returns-in_err-refusal-clause-marks_after
unfolding code_of
returns-in_err-refusal-clause-marks_after c =
    (refused_err _ _ _ _ _ c.in_err-refusal.ensures _ (search rules), told_height _ c.in_err-refusal.field-0.0 _ (search rules))

pub returns-in_err-refusal-clause-setup_promise : goal.returns-in_err-refusal-clause-setup_promise
returns-in_err-refusal-clause-setup_promise c = setup_promise _ _ _ _ _ _ (returns-in_err-refusal-clause-marks_after c).0

pub reach_of-requires : goal.reach_of-requires
unfolding code_of
reach_of-requires c = (stands _ _ _ _ _ c.in_ok-refusal.ensures refl).asked

pub walk_from-s-requires : goal.walk_from-s-requires
unfolding code_of
walk_from-s-requires c = may_walk _ _ _ _ _ c.in_ok-refusal.ensures refl _ _ c.next_stamp-next.ensures.1 c.reach_of.ensures.0

pub returns-clause-marks_after : goal.returns-clause-marks_after
unfolding code_of told
returns-clause-marks_after c = (
  answered _ _ _ _ _ c.in_ok-refusal.ensures refl _ _ _ _ _ c.next_stamp-next.ensures.1 c.next_stamp-next.ensures.0
      c.reach_of.ensures.0 c.walk_from-s.ensures.0,
  c.walk_from-s.ensures.1.height,
)

pub returns-clause-setup_promise : goal.returns-clause-setup_promise
returns-clause-setup_promise c = setup_promise _ _ _ _ _ _ (returns-clause-marks_after c).0
