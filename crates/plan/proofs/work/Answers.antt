-- The levels are surveyed once both tables are zero; then they are refused, or searched.
use Rattle.std.proofs.Common.{refl}
use Rattle.grid.specs.Index.{index_of}
use Rattle.plan.proofs.Answering.{levels_refused, search_asks, found_settled}
use Rattle.plan.proofs.work.Goals as goal

pub finish-requires : goal.finish-requires
finish-requires c =
    let a = c.args in
    search_asks (index_of a.mesh.now a.h a.starts.now a.members.now a.boxes.now) a.marks.now a.levels.now a.runs.now a.p a.axis
    _ _ _ _ _ c.requires.size c.zero.ensures.0 c.zero.ensures.1 c.in-Ok.ensures _ refl c.requires.askable

pub returns-in-Ok : goal.returns-in-Ok
returns-in-Ok c =
    let a = c.args in
    found_settled (index_of a.mesh.now a.h a.starts.now a.members.now a.boxes.now) a.marks.now a.levels.now a.runs.now a.p a.axis
    _ _ _ _ _ c.requires.size c.zero.ensures.0 c.zero.ensures.1 c.in-Ok.ensures _ refl _ _ c.finish.ensures.0 c.finish.ensures.1

pub returns-in-Err : goal.returns-in-Err
returns-in-Err c =
    let a = c.args in
    levels_refused (index_of a.mesh.now a.h a.starts.now a.members.now a.boxes.now) a.marks.now a.levels.now a.runs.now a.p a.axis
    _ _ _ _ _ c.requires.size c.zero.ensures.0 c.zero.ensures.1 c.in-Err.ensures _ refl _ c.give_up.ensures
