use Rattle.std.proofs.Common.{◌≡◌, ◌-◌}
use Rattle.parameters.specs.Terms.{too_fine, any_of}
use Rattle.parameters.specs.Inside.{levels_in}
use Rattle.parameters.proofs.any_fine.Given as goal

-- what is left to test tells what the whole does
abbrev pub invariant-loop-m : goal.invariant-loop-m
invariant-loop-m l = any_of (too_fine l.p l.axis l.r) (levels_in l.levels l.m (l.count - l.m)) ≡ any_of (too_fine l.p l.axis l.r) (levels_in l.levels 0 l.count)
