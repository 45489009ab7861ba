-- the test of the cells that are left gives what that of the whole row gave
use Rattle.std.proofs.Common.{◌≡◌, ◌+◌, ◌-◌, ◌*◌}
use Rattle.rules.specs.Every.{every}
use Rattle.walk.specs.Walk.{over, cell, row}
use Rattle.query.specs.Usable.{member_usable, cell_usable, row_usable}
use Rattle.query.specs.Inside.{Tested}
use Rattle.query.proofs.Gathering.{Going}
use Rattle.query.proofs.row_usable.Given as goal

abbrev pub invariant-loop-x : goal.invariant-loop-x
invariant-loop-x l =
    (every (λ k. cell_usable (member_usable l.mesh l.boxes l.n l.marks l.stamp) l.starts l.members (l.y * l.columns + k)) l.x (l.x1 - l.x)
    ≡ row_usable (member_usable l.mesh l.boxes l.n l.marks l.stamp) l.starts l.members l.columns l.x0 l.x1 l.y)
    × Tested (member_usable l.mesh l.boxes l.n l.marks l.stamp) l.recent
    × Going l.n (row l.starts l.members l.columns l.x0 l.x1 l.y) (over (λ k. cell l.starts l.members (l.y * l.columns + k)) l.x (l.x1 - l.x))
    l.initial.recent l.initial.list l.from l.recent l.list l.count
