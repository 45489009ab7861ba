-- What is left of a ring, walked from here, gives what the whole ring gave from its start.
use Rattle.std.proofs.Common.{◌+◌, ◌-◌, ◌*◌, ◌≤◌}
use Rattle.walk.specs.Walk.{over, cell, row, block}
use Rattle.walk.specs.Inside.{seen, look}
use Rattle.walk.proofs.Rings.{Going}
use Rattle.walk.proofs.visit.Given as goal

abbrev pub invariant-loop-y : goal.invariant-loop-y
invariant-loop-y g l =
    Going l.stamp (look l.stamp (g.Q.Look.step l.q)) (seen l.initial.marks l.initial.found) (block l.starts l.members l.columns l.x0 l.x1 l.y0 l.y1)
    (seen l.marks l.found) (block l.starts l.members l.columns l.x0 l.x1 l.y l.y1)
    × (l.y0 ≤ l.y)
    × g.Q.Look.sane l.q l.found.count l.found.best

abbrev pub invariant-loop-x : goal.invariant-loop-x
invariant-loop-x g l =
    Going l.stamp (look l.stamp (g.Q.Look.step l.q)) (seen l.initial.marks l.initial.found) (row l.starts l.members l.columns l.x0 l.x1 l.y)
    (seen l.marks l.found) (over (λ k. cell l.starts l.members (l.y * l.columns + k)) l.x (l.x1 - l.x))
    × (l.x0 ≤ l.x)
    × g.Q.Look.sane l.q l.found.count l.found.best
