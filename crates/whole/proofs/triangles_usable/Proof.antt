-- `whole::triangles_usable` meets its contract: the test of the triangles that are left gives what that of all gave.
use Prim.Native.Nat.{◌-◌, ◌≤◌}
use mathlib.Core.Path.{◌≡◌, ap}
use native.Mathlib.Nat.{sub-zero}
use native.Mathlib.Omega.{arith}
use Rattle.rules.specs.Every.{every}
use Rattle.query.specs.Usable.{triangle_usable}
use Rattle.rules.proofs.Testing.{every_stops, every_goes, every_ends, failed, passed}
use Rattle.whole.proofs.triangles_usable.Statement.{statement}
use Rattle.whole.proofs.triangles_usable.Tie as tie

abbrev invariant-loop : tie.invariant-loop-i
invariant-loop mesh boxes n i₀ i = (every (triangle_usable mesh boxes) i (n - i) ≡ every (triangle_usable mesh boxes) 0 n) × (i ≤ n)

abbrev decreases-loop : tie.decreases-loop-i
decreases-loop mesh boxes n i₀ i = n - i

loop-holds : tie.Need-loop-i-init invariant-loop decreases-loop
loop-holds c = (ap (every _ 0) (sub-zero _), omega arith)

returns : tie.Need-returns-then-not-triangle_usable invariant-loop decreases-loop
returns c =
    let l = c.before.before.before.loop-i in
    every_stops _ l.i _ _ c.before.before.loop-i-test.true (failed _ _ c.before.triangle_usable.ensures c.if-not-triangle_usable.true-raw) l.invariant.0

loop-again : tie.Need-loop-i-preserved invariant-loop decreases-loop
loop-again c =
    let l = c.before.before.before.loop-i in
    (every_goes _ l.i _ _ c.before.before.loop-i-test.true (passed _ _ c.before.triangle_usable.ensures c.if-not-triangle_usable.false-raw) l.invariant.0, omega arith)

returns-2 : tie.Need-returns invariant-loop decreases-loop
returns-2 c = every_ends _ c.before.loop-i.i _ _ (omega arith) c.before.loop-i.invariant.0

pub triangles_usable_spec : {M : Type 1} → statement M
triangles_usable_spec =
    tie.close (tie.spec invariant-loop decreases-loop loop-holds (λ c κs. (omega arith, omega arith)) returns (λ c. omega arith) (λ c. omega arith) loop-again returns-2)
