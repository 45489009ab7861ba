use mathlib.Core.Path.{◌≡◌, refl}
use Prim.Native.Nat.{◌≤◌, ◌-◌}
use borrow.Author.Rules.{rules}
use native.Mathlib.Omega.{arith}
use Rattle.bull_pass.specs.Inside.{march_run, edge_passes}
use Rattle.bull_pass.proofs.Marching.{run_next, run_done, run_out}
use Rattle.bull_pass.proofs.edge_passes.Statement.{statement}
use Rattle.bull_pass.proofs.edge_passes.Tie as tie

abbrev invariant-loop : tie.invariant-loop-n
invariant-loop k e s₀ n₀ s n = (march_run k e (20 - n) s ≡ march_run k e 20 s₀) × (n ≤ 20)

abbrev decreases-loop : tie.decreases-loop-n
decreases-loop k e s₀ n₀ s n = 20 - n

loop-holds : tie.Need-loop-n-init invariant-loop decreases-loop
loop-holds c = (refl, search rules)

loop-again : tie.Need-loop-n-preserved invariant-loop decreases-loop
loop-again c = (search (run_next, run_done, run_out), search rules)

returns : tie.Need-returns-then-s invariant-loop decreases-loop
unfolding edge_passes
returns c = search (run_next, run_done, run_out)

returns-2 : tie.Need-returns invariant-loop decreases-loop
unfolding edge_passes
returns-2 c = search (run_next, run_done, run_out)

pub edge_passes_spec : {M : Type 1} → statement M
edge_passes_spec = tie.close (tie.spec invariant-loop decreases-loop loop-holds (λ c κs. tt) returns (λ c. omega arith) (λ c. omega arith) loop-again returns-2)
