use Rattle.std.proofs.Common.{◌≡◌, true}
use borrow.Author.Tests.{eqb-true}
use Rattle.rules.proofs.Branches.{bool_called}
use Rattle.grid.specs.Boxes.{is_boxed}
use Rattle.plan.proofs.refusal.Goals as goal

pub usable_whole-requires : goal.usable_whole-requires
unfolding is_boxed
usable_whole-requires c =
    let b : is_boxed c.args.mesh.now c.args.boxes.now ≡ true = bool_called _ _ _ c.is_boxed.ensures c.if-not-is_boxed.false in
    eqb-true _ _ b
