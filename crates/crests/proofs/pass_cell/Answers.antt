use Rattle.std.proofs.Common.{ap, ◌∙◌, arith}
use Rattle.walk.specs.Walk.{fold}
use Rattle.walk.proofs.Marks.{all_tabled}
use Rattle.crests.proofs.Passing.{block_one, passed_low, walked_on}
use Rattle.crests.proofs.pass_cell.Goals as goal

pub overflow_mul-c : goal.overflow_mul-c
overflow_mul-c c =
    let i = (c.requires.3.stretch c.args.x c.args.y (omega arith) (omega arith) (omega arith) (omega arith)).inside in
    record { fits = omega (arith, i) }

pub overflow_add-c : goal.overflow_add-c
overflow_add-c c =
    let i = (c.requires.3.stretch c.args.x c.args.y (omega arith) (omega arith) (omega arith) (omega arith)).inside in
    record { fits = omega (arith, i) }

pub returns-then-is_low : goal.returns-then-is_low
returns-then-is_low c = passed_low _ _ _ _ _ _ c.requires.8 _ _ c.requires.6 c.is_low.ensures c.if-is_low.true

pub visit-requires : goal.visit-requires
visit-requires c = (c.requires.3, c.requires.7, all_tabled _ _ _ c.requires.0 c.requires.1, tt)

pub returns : goal.returns
returns c =
    let a = c.args in
    walked_on _ _ _ _ _ _ c.requires.8 _ (c.visit.ensures.0 ∙ ap (fold _ _) (block_one a.starts.now a.members.now 0 a.columns a.x a.y))
    (c.requires.3.below a.x a.y (omega arith) (omega arith) (omega arith) (omega arith))
