use Rattle.desk_plan.proofs.Along.{along_x, along_y, along_none, lost_x, lost_y, lost_none}
use Rattle.desk_plan.proofs.plan_along.Goals as goal

pub returns-then-axis-eq0 : goal.returns-then-axis-eq0
returns-then-axis-eq0 c =
    let e = c.if-axis-eq0.true in
    record { marks_after = along_x _ _ _ _ _ _ _ e c.plan.ensures.marks_after; nothing_lost = lost_x _ _ _ _ e c.plan.ensures.nothing_lost }

pub returns-then-axis-eq1 : goal.returns-then-axis-eq1
returns-then-axis-eq1 c =
    let e = c.if-axis-eq1.true in
    let q = c.plan-then-axis-eq1.ensures in
    record { marks_after = along_y _ _ _ _ _ _ _ c.if-axis-eq0.false e q.marks_after; nothing_lost = lost_y _ _ _ _ e q.nothing_lost }

pub returns : goal.returns
returns c =
    record {
      marks_after = along_none _ _ _ _ _ _ _ c.if-axis-eq0.false c.if-axis-eq1.false c.no_axis.ensures;
      nothing_lost = lost_none _ _ _ _;
    }
