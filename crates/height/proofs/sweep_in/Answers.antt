use Rattle.grid.specs.Index.{index_of}
use Rattle.height.proofs.Sweeping.{sweep_ready, sweep_is}
use Rattle.height.proofs.sweep_in.Goals as goal

pub visit-found-requires : goal.visit-found-requires
visit-found-requires c =
    let a = c.args in
    let r = sweep_ready (index_of a.mesh.now a.h a.starts.now a.members.now a.boxes.now) _ _ a.p _ _
    c.next_stamp-next.ensures.1 c.requires.0 c.requires.1 c.requires.2 c.requires.3 in
    (r.0, r.1, r.2, tt)

pub returns : goal.returns
returns c =
    let a = c.args in
    let n = c.next_stamp-next.ensures in
    (sweep_is (index_of a.mesh.now a.h a.starts.now a.members.now a.boxes.now) _ _ a.p _ _ n.1 _ _ n.0 c.visit-found.ensures.0, n.0)
