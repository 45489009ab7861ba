-- the test of the rows that are left gives what that of all gave
use Rattle.std.proofs.Common.{◌≡◌, ◌-◌}
use Rattle.rules.specs.Every.{every}
use Rattle.walk.specs.Walk.{over, row, block}
use Rattle.query.specs.Usable.{member_usable, row_usable, cells_usable}
use Rattle.query.specs.Inside.{Tested}
use Rattle.query.proofs.Gathering.{Going}
use Rattle.query.proofs.cells_usable.Given as goal

abbrev pub invariant-loop-y : goal.invariant-loop-y
invariant-loop-y l =
    (every (row_usable (member_usable l.mesh l.boxes l.n l.marks l.stamp) l.starts l.members l.columns l.x0 l.x1) l.y (l.y1 - l.y)
    ≡ cells_usable (member_usable l.mesh l.boxes l.n l.marks l.stamp) l.starts l.members l.columns (record { x0 = l.x0; x1 = l.x1; y0 = l.y0; y1 = l.y1 }))
    × Tested (member_usable l.mesh l.boxes l.n l.marks l.stamp) l.recent
    × Going l.n (block l.starts l.members l.columns l.x0 l.x1 l.y0 l.y1) (over (row l.starts l.members l.columns l.x0 l.x1) l.y (l.y1 - l.y))
    l.initial.recent l.initial.list 0 l.recent l.list l.count
