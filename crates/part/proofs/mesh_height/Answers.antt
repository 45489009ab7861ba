use Rattle.std.proofs.Common.{refl}
use Rattle.std.proofs.lemmas.Result.{err_from_is_err_and}
use Rattle.refusals.proofs.Named.{not_zero}
use Rattle.grid.specs.Build.{told, refused_by, accepted_with}
use Rattle.height.specs.Sweep.{sweep}
use Rattle.part.proofs.Composed.{mesh_refused, mesh_asked}
use Rattle.part.proofs.mesh_height.Goals as goal

pub returns-in_err-h-clause-marks_after : goal.returns-in_err-h-clause-marks_after
unfolding told refused_by accepted_with
returns-in_err-h-clause-marks_after c =
    let p = err_from_is_err_and c.from_residual.result c.from_residual.ensures.1 in
    rw (p.1, p.2) (mesh_refused _ _ _ _ _ _ _ _ _ _ _ _ _ c.in_err-h.ensures.boxes_after _ (not_zero _) refl).0

pub returns-in_err-h-clause-meets_demand3 : goal.returns-in_err-h-clause-meets_demand3
unfolding told refused_by accepted_with
returns-in_err-h-clause-meets_demand3 c =
    let p = err_from_is_err_and c.from_residual.result c.from_residual.ensures.1 in
    rw (p.1, p.2) (mesh_refused _ _ _ _ _ _ _ _ _ _ _ _ _ c.in_err-h.ensures.boxes_after _ (not_zero _) refl).1

pub returns-clause-marks_after : goal.returns-clause-marks_after
unfolding told refused_by accepted_with
returns-clause-marks_after c =
    let a = c.args in
    let b = c.in_ok-h.ensures in
    let q = c.max_height.ensures in
    (mesh_asked a.floor a.radius a.starts.now a.members.now a.boxes.now a.marks.now a.stamp (sweep a.px a.py a.qx a.qy a.r) a.mesh.now _ _ _ _
    b.boxes_after _ _ refl b.build_promise q.marks_after q.disk_promise).0

pub returns-clause-meets_demand3 : goal.returns-clause-meets_demand3
unfolding told refused_by accepted_with
returns-clause-meets_demand3 c =
    let a = c.args in
    let b = c.in_ok-h.ensures in
    let q = c.max_height.ensures in
    (mesh_asked a.floor a.radius a.starts.now a.members.now a.boxes.now a.marks.now a.stamp (sweep a.px a.py a.qx a.qy a.r) a.mesh.now _ _ _ _
    b.boxes_after _ _ refl b.build_promise q.marks_after q.disk_promise).1
