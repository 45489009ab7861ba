-- The numbers that are left, looked at from here, give what all gave from the start.
use Rattle.std.proofs.Common.{◌≤◌, length, drop}
use Rattle.walk.specs.Inside.{seen, look}
use Rattle.walk.proofs.Rings.{Going}
use Rattle.walk.proofs.visit_cell.Given as goal

abbrev pub invariant-loop-i : goal.invariant-loop-i
invariant-loop-i g l =
    Going l.stamp (look l.stamp (g.Q.Look.step l.q)) (seen l.initial.marks l.initial.found) l.part (seen l.marks l.found) (drop l.i-index l.part)
    × (l.i-index ≤ length l.part)
    × g.Q.Look.sane l.q l.found.count l.found.best
