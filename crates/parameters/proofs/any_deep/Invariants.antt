use Rattle.std.proofs.Common.{◌≡◌, ◌-◌}
use Rattle.parameters.specs.Terms.{too_deep, any_of}
use Rattle.parameters.specs.Inside.{levels_in}
use Rattle.parameters.proofs.any_deep.Given as goal

-- what is left to test tells what the whole does
abbrev pub invariant-loop-m : goal.invariant-loop-m
invariant-loop-m l = any_of (too_deep l.p) (levels_in l.levels l.m (l.count - l.m)) ≡ any_of (too_deep l.p) (levels_in l.levels 0 l.count)
