-- `moves::are_runs` meets its contract: what is left to test tells what the whole does.
use Prim.Native.Nat.{◌≤◌, ◌-◌}
use mathlib.Core.Path.{◌≡◌, sym, ap, ◌∙◌}
use native.Mathlib.Omega.{arith}
use Rattle.join.specs.Join.{run_in, runs_in}
use Rattle.moves.specs.Begin.{is_run, are_runs}
use Rattle.moves.proofs.Testing.{all_starts, all_fails, all_goes, all_end}
use Rattle.moves.proofs.are_runs.Statement.{statement}
use Rattle.moves.proofs.are_runs.Tie as tie

abbrev invariant-loop : tie.invariant-loop-m
invariant-loop feed runs m₀ m-end m = (are_runs feed (runs_in runs m (m-end - m)) ≡ are_runs feed (runs_in runs 0 m-end)) × (m ≤ m-end)

abbrev decreases-loop : tie.decreases-loop-m
decreases-loop feed runs m₀ m-end m = m-end - m

loop-holds : tie.Need-loop-m-init invariant-loop decreases-loop
loop-holds c = (all_starts _ _ _, omega arith)

-- what the test says of run m
tested : (c : tie.After-is_run invariant-loop decreases-loop) → is_run c.before.before.before.before.before.args.feed
    (run_in c.before.before.before.before.before.args.runs.now c.before.before.before.loop-m.m) ≡ c.is_run.result
tested c = ap (is_run c.before.before.before.before.before.args.feed) (sym c.before.run_at.ensures) ∙ sym c.is_run.ensures

returns : tie.Need-returns-then-not-is_run invariant-loop decreases-loop
returns c = all_fails _ _ _ _ c.before.before.before.loop-m-test.true (tested c.before ∙ c.if-not-is_run.true)
    c.before.before.before.before.loop-m.invariant.0

loop-again : tie.Need-loop-m-preserved invariant-loop decreases-loop
loop-again c = (
  all_goes _ _ _ _ c.before.before.before.loop-m-test.true (tested c.before ∙ c.if-not-is_run.false)
      c.before.before.before.before.loop-m.invariant.0,
  omega arith,
)

returns-2 : tie.Need-returns invariant-loop decreases-loop
returns-2 c = sym (all_end _ _ c.before.loop-m.m _ (omega arith)) ∙ c.before.loop-m.invariant.0

pub are_runs_spec : {M : Type 1} → statement M
are_runs_spec = tie.close
    (tie.spec invariant-loop decreases-loop loop-holds (λ c κs. omega arith) (λ c κs. tt) returns (λ c. omega arith) (λ c. omega arith) loop-again returns-2)
