-- `setup::usable::row_usable` meets its contract: the test of the cells that are left gives what that of the whole row gave.
use Prim.Native.Nat.{◌+◌, ◌-◌, ◌*◌}
use mathlib.Core.Path.{◌≡◌, refl}
use native.Mathlib.Omega.{arith}
use Rattle.rules.specs.Every.{every}
use Rattle.query.specs.Usable.{cell_usable, row_usable}
use Rattle.setup.specs.Answer.{member_usable}
use Rattle.rules.proofs.Testing.{every_stops, every_goes, every_ends, failed, passed}
use Rattle.setup.proofs.usable.row_usable.Statement.{statement}
use Rattle.setup.proofs.usable.row_usable.Tie as tie

abbrev invariant-loop : tie.invariant-loop-x
invariant-loop mesh n starts members marks stamp columns x0 x1 y x₀ x =
    every (λ k. cell_usable (member_usable mesh n marks stamp) starts members (y * columns + k)) x (x1 - x)
    ≡ row_usable (member_usable mesh n marks stamp) starts members columns x0 x1 y

abbrev decreases-loop : tie.decreases-loop-x
decreases-loop mesh n starts members marks stamp columns x0 x1 y x₀ x = x1 - x

loop-holds : tie.Need-loop-x-init invariant-loop decreases-loop
unfolding row_usable
loop-holds c = refl

returns : tie.Need-returns-then-not-cell_usable invariant-loop decreases-loop
returns c =
    let l = c.before.before.before.loop-x in
    every_stops _ l.x _ _ c.before.before.loop-x-test.true (failed _ _ c.before.cell_usable.ensures c.if-not-cell_usable.true-raw) l.invariant

loop-again : tie.Need-loop-x-preserved invariant-loop decreases-loop
loop-again c =
    let l = c.before.before.before.loop-x in
    every_goes _ l.x _ _ c.before.before.loop-x-test.true (passed _ _ c.before.cell_usable.ensures c.if-not-cell_usable.false-raw) l.invariant

returns-2 : tie.Need-returns invariant-loop decreases-loop
returns-2 c = every_ends _ c.before.loop-x.x _ _ (omega arith) c.before.loop-x.invariant

pub row_usable_spec : {M : Type 1} → statement M
row_usable_spec =
    tie.close
    (tie.spec invariant-loop decreases-loop loop-holds (λ c. omega arith) (λ c. omega arith)
    (λ c κs. let s = c.before.before.before.before.before in (s.requires.0, s.requires.1, omega arith)) returns (λ c. omega arith) (λ c. omega arith)
    loop-again returns-2)
