use Rattle.grid.specs.Index.{index_of}
use Rattle.ask.proofs.Answers.{inside}
use Rattle.look_over.proofs.Asking.{walk_ready}
use Rattle.look_over.proofs.Trying.{rapid_told}
use Rattle.look_over.proofs.rapid.Goals as goal

pub tool_ruling-r-requires : goal.tool_ruling-r-requires
tool_ruling-r-requires c =
    let a = c.args in
    walk_ready (index_of a.mesh.now a.h a.starts.now a.members.now a.boxes.now) c.requires.answerable.0.indexed _ _
    c.requires.answerable.1 c.patch_of-p.result (inside _ _ _ _ _ _ _ c.patch_of-p.ensures)

pub returns : goal.returns
returns c =
    let a = c.args in
    let r = c.requires.answerable in
    let v = c.requires.reach_value in
    rapid_told (index_of a.mesh.now a.h a.starts.now a.members.now a.boxes.now) a.stamp
    a.marks.now r.1 a.m r.2 a.table.now r.0 a.reach a.low v.0 v.1 _ c.patch_of-p.ensures _ _ _ c.tool_ruling-r.ensures c.fault_of.ensures
