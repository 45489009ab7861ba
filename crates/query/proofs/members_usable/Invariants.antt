-- the test of the numbers that are left gives what that of all gave
use Rattle.std.proofs.Common.{◌≡◌, drop}
use Rattle.rules.specs.Every.{each}
use Rattle.query.specs.Usable.{member_usable}
use Rattle.query.specs.Inside.{Tested}
use Rattle.query.proofs.Gathering.{Going}
use Rattle.query.proofs.members_usable.Given as goal

abbrev pub invariant-loop-i : goal.invariant-loop-i
invariant-loop-i l =
    (each (member_usable l.mesh l.boxes l.n l.marks l.stamp) (drop l.i-index l.part) ≡ each (member_usable l.mesh l.boxes l.n l.marks l.stamp) l.part)
    × Tested (member_usable l.mesh l.boxes l.n l.marks l.stamp) l.recent
    × Going l.n l.part (drop l.i-index l.part) l.initial.recent l.initial.list l.from l.recent l.list l.count
