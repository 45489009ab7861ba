-- `query::corners_usable` meets its contract: the test of the numbers that are left gives what that of all nine gave.
use Prim.Native.Nat.{◌+◌, ◌-◌, ◌*◌, ◌≤◌}
use mathlib.Core.Path.{◌≡◌}
use native.Mathlib.Omega.{arith}
use borrow.Author.Rules.{rules}
use Rattle.numbers.specs.Reals.{num}
use Rattle.plane.specs.Ranges.{is_coordinate}
use Rattle.rules.specs.Every.{every}
use Rattle.query.specs.Usable.{corners_usable}
use Rattle.rules.proofs.Testing.{every_stops, every_goes, every_ends, failed, passed}
use Rattle.query.proofs.corners_usable.Statement.{statement}
use Rattle.query.proofs.corners_usable.Tie as tie

abbrev invariant-loop : tie.invariant-loop-k
invariant-loop mesh i k₀ k-end k =
    (every (λ m. is_coordinate (num mesh m)) k (k-end - k) ≡ corners_usable mesh i) × (k-end ≡ 9 * i + 9) × (k ≤ k-end)

abbrev decreases-loop : tie.decreases-loop-k
decreases-loop mesh i k₀ k-end k = k-end - k

loop-holds : tie.Need-loop-k-init invariant-loop decreases-loop
unfolding corners_usable
loop-holds c =
    let i = c.before.args.i in
    let e : 9 * i + 9 - 9 * i ≡ 9 = omega arith in
    (rw e, omega arith, omega arith)

returns : tie.Need-returns-then-not-is_coordinate invariant-loop decreases-loop
returns c =
    let l = c.before.before.before.before.loop-k in
    every_stops _ l.k _ _ (omega arith) (failed _ _ c.before.is_coordinate.ensures c.if-not-is_coordinate.true-raw) l.invariant.0

loop-again : tie.Need-loop-k-preserved invariant-loop decreases-loop
loop-again c =
    let l = c.before.before.before.before.loop-k in
    (every_goes _ l.k _ _ (omega arith) (passed _ _ c.before.is_coordinate.ensures c.if-not-is_coordinate.false-raw) l.invariant.0, omega arith, omega arith)

returns-2 : tie.Need-returns invariant-loop decreases-loop
returns-2 c = every_ends _ c.before.loop-k.k _ _ (omega arith) c.before.loop-k.invariant.0

pub corners_usable_spec : {M : Type 1} → statement M
corners_usable_spec =
    tie.close
    (tie.spec invariant-loop decreases-loop (λ c. omega arith) (λ c. omega arith) (λ c. omega arith) loop-holds (λ c. search rules) (λ c. omega arith)
    (λ c κs. tt) returns (λ c. omega arith) (λ c. omega arith) loop-again returns-2)
