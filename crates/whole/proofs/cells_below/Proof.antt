-- `whole::cells_below` meets its contract: the test of the cells that are left gives what that of all gave.
use Prim.Native.Nat.{◌-◌, ◌≤◌}
use mathlib.Core.Path.{◌≡◌, ap}
use native.Mathlib.Nat.{sub-zero}
use native.Mathlib.Omega.{arith}
use lib.Dec.{ltb}
use Rattle.rules.specs.Every.{every}
use Rattle.query.specs.Usable.{cell_usable}
use Rattle.rules.proofs.Testing.{every_stops, every_goes, every_ends, failed, passed}
use Rattle.whole.proofs.cells_below.Statement.{statement}
use Rattle.whole.proofs.cells_below.Tie as tie

abbrev invariant-loop : tie.invariant-loop-c
invariant-loop starts members n cells c₀ c =
    (every (cell_usable (λ i. ltb i n) starts members) c (cells - c) ≡ every (cell_usable (λ i. ltb i n) starts members) 0 cells) × (c ≤ cells)

abbrev decreases-loop : tie.decreases-loop-c
decreases-loop starts members n cells c₀ c = cells - c

loop-holds : tie.Need-loop-c-init invariant-loop decreases-loop
loop-holds c = (ap (every _ 0) (sub-zero _), omega arith)

returns : tie.Need-returns-then-not-cell_below invariant-loop decreases-loop
returns c =
    let l = c.before.before.before.loop-c in
    every_stops _ l.c _ _ c.before.before.loop-c-test.true (failed _ _ c.before.cell_below.ensures c.if-not-cell_below.true-raw) l.invariant.0

loop-again : tie.Need-loop-c-preserved invariant-loop decreases-loop
loop-again c =
    let l = c.before.before.before.loop-c in
    (every_goes _ l.c _ _ c.before.before.loop-c-test.true (passed _ _ c.before.cell_below.ensures c.if-not-cell_below.false-raw) l.invariant.0, omega arith)

returns-2 : tie.Need-returns invariant-loop decreases-loop
returns-2 c = every_ends _ c.before.loop-c.c _ _ (omega arith) c.before.loop-c.invariant.0

pub cells_below_spec : {M : Type 1} → statement M
cells_below_spec =
    tie.close (tie.spec invariant-loop decreases-loop loop-holds (λ c κs. omega arith) returns (λ c. omega arith) (λ c. omega arith) loop-again returns-2)
