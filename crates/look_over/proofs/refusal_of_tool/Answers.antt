use borrow.Author.Tests.{eqb-true}
use Rattle.grid.specs.Boxes.{is_boxed}
use Rattle.look_over.proofs.refusal_of_tool.Goals as goal

pub usable_whole-requires : goal.usable_whole-requires
unfolding is_boxed
usable_whole-requires c = eqb-true _ _ c.requires
