-- Before turn i the table holds the numbers of the first i sections.
use Rattle.std.proofs.Common.{◌≡◌, ◌-◌, ◌*◌, ◌≤◌, length, take}
use Rattle.flatten.specs.Flat.{flat_of, held_in}
use Rattle.flatten.proofs.flat.Given as goal

abbrev pub invariant-loop-i : goal.invariant-loop-i
invariant-loop-i l = (held_in l.t ≡ flat_of (take l.i l.sections)) × (length l.t.numbers ≡ 128) × (l.t.count ≡ l.i * 4) × (l.i ≤ l.n)

abbrev pub decreases-loop-i : goal.decreases-loop-i
decreases-loop-i l = l.n - l.i
