-- `setup::refusal_of_tables`: what the test of the question's cells asks, and what it told.
use Rattle.std.proofs.Common.{◌≡◌, refl, sym, ◌∙◌}
use Rattle.rules.proofs.Ladder.{demand_here, demand_next}
use Rattle.refusals.specs.Numbers.{code_of, number_of}
use Rattle.um.specs.Index.{index_of}
use Rattle.setup.specs.Answer.{refusal_of_tables}
use Rattle.setup.proofs.Heads.{headed_is}
use Rattle.setup.proofs.Answering.{tables_ask, tables_told}
use Rattle.setup.proofs.refusal_of_tables.Goals as goal

pub patch_of-requires : goal.patch_of-requires
patch_of-requires c =
    let r = (headed_is _ _ _ c.requires.1).ranged in
    (c.requires.2, r.x, r.y, r.cell)

pub cells_usable-requires : goal.cells_usable-requires
cells_usable-requires c =
    tables_ask (index_of c.args.mesh.now c.args.h c.args.starts.now c.args.members.now) c.args.marks.now c.args.stamp
    c.args.w _ c.patch_of.ensures (headed_is _ _ _ c.requires.1) c.requires.0

pub returns-then-cells_usable : goal.returns-then-cells_usable
unfolding refusal_of_tables code_of
returns-then-cells_usable c = demand_next _ 7 0 0 (tables_told _ _ _ _ _ c.patch_of.ensures _ _ c.cells_usable.ensures c.if-cells_usable.true) refl

pub returns : goal.returns
unfolding refusal_of_tables code_of number_of
returns c = demand_here _ 7 0 7 (tables_told _ _ _ _ _ c.patch_of.ensures _ _ c.cells_usable.ensures c.if-cells_usable.false) refl
