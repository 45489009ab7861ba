use Rattle.std.proofs.Common.{refl, sym}
use Rattle.std.proofs.lemmas.Result.{err_from_is_err_and}
use lib.Seq.{length-take-le}
use Rattle.refusals.proofs.Named.{not_zero}
use Rattle.height.specs.Sweep.{sweep}
use Rattle.part.proofs.Composed.{part_refused, part_asked, fits}
use Rattle.part.proofs.part_height.Goals as goal

pub returns-in_err-n-clause-marks_after : goal.returns-in_err-n-clause-marks_after
returns-in_err-n-clause-marks_after c =
    let a = c.args in
    let p = err_from_is_err_and c.from_residual.result c.from_residual.ensures.1 in
    rw (p.1, p.2)
    (part_refused a.floor a.radius a.starts.now a.members.now a.boxes.now a.marks.now a.stamp (sweep a.px a.py a.qx a.qy a.r) a.bytes.now a.mesh.now _
    c.in_err-n.ensures.mesh_after a.starts.now a.members.now a.boxes.now _ (not_zero _) refl).0

pub returns-in_err-n-clause-meets_demand3 : goal.returns-in_err-n-clause-meets_demand3
returns-in_err-n-clause-meets_demand3 c =
    let a = c.args in
    let p = err_from_is_err_and c.from_residual.result c.from_residual.ensures.1 in
    rw (p.1, p.2)
    (part_refused a.floor a.radius a.starts.now a.members.now a.boxes.now a.marks.now a.stamp (sweep a.px a.py a.qx a.qy a.r) a.bytes.now a.mesh.now _
    c.in_err-n.ensures.mesh_after a.starts.now a.members.now a.boxes.now _ (not_zero _) refl).1

pub slice_bounds-mesh_height-end : goal.slice_bounds-mesh_height-end
slice_bounds-mesh_height-end c = fits _ _ _ c.in_ok-n.ensures.mesh_after refl

pub slice_bounds-mesh_height-end-2 : goal.slice_bounds-mesh_height-end-2
slice_bounds-mesh_height-end-2 c = sym (length-take-le _ _ (fits _ _ _ c.in_ok-n.ensures.mesh_after refl))

pub returns-clause-marks_after : goal.returns-clause-marks_after
returns-clause-marks_after c =
    let a = c.args in
    let q = c.mesh_height.ensures in
    (part_asked a.floor a.radius a.starts.now a.members.now a.boxes.now a.marks.now a.stamp (sweep a.px a.py a.qx a.qy a.r) a.bytes.now a.mesh.now _
    c.in_ok-n.ensures.mesh_after refl _ q.marks_after q.meets_demand3).0

pub returns-clause-meets_demand3 : goal.returns-clause-meets_demand3
returns-clause-meets_demand3 c =
    let a = c.args in
    let q = c.mesh_height.ensures in
    (part_asked a.floor a.radius a.starts.now a.members.now a.boxes.now a.marks.now a.stamp (sweep a.px a.py a.qx a.qy a.r) a.bytes.now a.mesh.now _
    c.in_ok-n.ensures.mesh_after refl _ q.marks_after q.meets_demand3).1
