-- `desk::mandrikelo_max_height` meets its contract: what the library says of the header that was read holds of the one that the arrays stand for.
use Rattle.grid.specs.Index.{index_of}
use Rattle.ask.specs.Ask.{answer_told}
use Rattle.height.specs.Sweep.{sweep}
use Rattle.height.specs.Height.{max_height_of}
use Rattle.height.specs.Demand.{DiskPromise}
use Rattle.handed.specs.Handed.{header_from}
use Rattle.desk.proofs.Asked.{height_told}
use Rattle.desk.proofs.mandrikelo_max_height.Goals as goal

pub returns-clause-touched_after : goal.returns-clause-touched_after
returns-clause-touched_after c =
    let a = c.args in
    let q = c.max_height-a in
    (height_told c.header_from.result (header_from a.measures.now a.sizes.now) c.header_from.ensures
    (λ h. max_height_of (index_of a.mesh.now h a.starts.now a.members.now a.boxes.now) a.marks.now a.stamp (sweep a.px a.py a.qx a.qy a.r))
    (λ h w. DiskPromise (index_of a.mesh.now h a.starts.now a.members.now a.boxes.now) a.marks.now a.stamp (sweep a.px a.py a.qx a.qy a.r) w)
    (answer_told q.result a.stamp) _ _ _ _ _ c.lay.ensures q.ensures.marks_after q.ensures.disk_promise).0

pub returns-clause-disk_promise : goal.returns-clause-disk_promise
returns-clause-disk_promise c =
    let a = c.args in
    let q = c.max_height-a in
    (height_told c.header_from.result (header_from a.measures.now a.sizes.now) c.header_from.ensures
    (λ h. max_height_of (index_of a.mesh.now h a.starts.now a.members.now a.boxes.now) a.marks.now a.stamp (sweep a.px a.py a.qx a.qy a.r))
    (λ h w. DiskPromise (index_of a.mesh.now h a.starts.now a.members.now a.boxes.now) a.marks.now a.stamp (sweep a.px a.py a.qx a.qy a.r) w)
    (answer_told q.result a.stamp) _ _ _ _ _ c.lay.ensures q.ensures.marks_after q.ensures.disk_promise).1
