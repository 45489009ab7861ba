use Prim.Native.Nat.{◌≤◌, ◌-◌}
use mathlib.Core.Path.{◌≡◌, refl}
use borrow.Author.Rules.{rules}
use native.Mathlib.Omega.{arith}
use Rattle.golden.specs.Upper.{bracket_run}
use Rattle.golden.proofs.Runs.{run_laws}
use Rattle.section_gap.specs.Blocks.{section_gap}
use Rattle.section_gap.proofs.run.Statement.{statement}
use Rattle.section_gap.proofs.run.Tie as tie

abbrev invariant-loop : tie.invariant-loop-n
invariant-loop t m k s₀ n₀ s n = (bracket_run (section_gap t m k) (60 - n) s ≡ bracket_run (section_gap t m k) 60 s₀) × (n ≤ 60)

abbrev decreases-loop : tie.decreases-loop-n
decreases-loop t m k s₀ n₀ s n = 60 - n

loop-holds : tie.Need-loop-n-init invariant-loop decreases-loop
loop-holds c = (refl, search rules)

returns : tie.Need-returns-else-g invariant-loop decreases-loop
returns c = search run_laws

loop-again : tie.Need-loop-n-preserved invariant-loop decreases-loop
loop-again c = (search run_laws, search rules)

returns-2 : tie.Need-returns invariant-loop decreases-loop
returns-2 c = search run_laws

pub run_spec : {M : Type 1} → statement M
run_spec =
    tie.close
    (tie.spec invariant-loop decreases-loop loop-holds (λ c κs. tt) returns (λ c. omega arith) (λ c. omega arith) loop-again returns-2)
