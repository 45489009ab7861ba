-- The lines before question i are told, and with those from i on, asked with the marks and the stamp as they are, they are the whole.
use Rattle.std.proofs.Common.{◌+◌, ◌-◌, ◌*◌, ◌≤◌}
use Rattle.grid.specs.Index.{index_of}
use Rattle.listing.specs.Listing.{answers_of}
use Rattle.listing.proofs.Telling.{Told}
use Rattle.listing.proofs.answers.Given as goal

abbrev pub invariant-loop-i : goal.invariant-loop-i
invariant-loop-i l =
    Told l.initial.out l.out l.at l.end (answers_of (index_of l.mesh l.h l.starts l.members l.boxes) l.questions l.initial.marks 0 0 l.m)
    (answers_of (index_of l.mesh l.h l.starts l.members l.boxes) l.questions l.marks l.stamp l.i (l.m - l.i))
    × (l.end ≤ l.at + 80 * l.i)
