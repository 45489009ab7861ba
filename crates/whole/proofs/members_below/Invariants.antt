use Rattle.std.proofs.Common.{◌≡◌, ltb}
use lib.ListN.{drop}
use Rattle.rules.specs.Every.{each}
use Rattle.whole.proofs.members_below.Given as goal

abbrev pub invariant-loop-i : goal.invariant-loop-i
invariant-loop-i l = each (λ i. ltb i l.fn.n) (drop l.i-index l.fn.part) ≡ each (λ i. ltb i l.fn.n) l.fn.part
