-- `setup::usable::cells_usable` meets its contract: the test of the rows that are left gives what that of all gave.
use Prim.Native.Nat.{◌-◌}
use mathlib.Core.Path.{◌≡◌, refl}
use native.Mathlib.Omega.{arith}
use Rattle.rules.specs.Every.{every}
use Rattle.query.specs.Usable.{row_usable, cells_usable}
use Rattle.setup.specs.Answer.{member_usable}
use Rattle.rules.proofs.Testing.{every_stops, every_goes, every_ends, failed, passed, in_rows}
use Rattle.setup.proofs.usable.cells_usable.Statement.{statement}
use Rattle.setup.proofs.usable.cells_usable.Tie as tie

abbrev invariant-loop : tie.invariant-loop-y
invariant-loop mesh n starts members marks stamp columns x0 x1 y0 y1 y₀ y =
    every (row_usable (member_usable mesh n marks stamp) starts members columns x0 x1) y (y1 - y)
    ≡ cells_usable (member_usable mesh n marks stamp) starts members columns (record { x0 = x0; x1 = x1; y0 = y0; y1 = y1 })

abbrev decreases-loop : tie.decreases-loop-y
decreases-loop mesh n starts members marks stamp columns x0 x1 y0 y1 y₀ y = y1 - y

loop-holds : tie.Need-loop-y-init invariant-loop decreases-loop
unfolding cells_usable
loop-holds c = refl

returns : tie.Need-returns-then-not-row_usable invariant-loop decreases-loop
returns c =
    let l = c.before.before.before.loop-y in
    every_stops _ l.y _ _ c.before.before.loop-y-test.true (failed _ _ c.before.row_usable.ensures c.if-not-row_usable.true-raw) l.invariant

loop-again : tie.Need-loop-y-preserved invariant-loop decreases-loop
loop-again c =
    let l = c.before.before.before.loop-y in
    every_goes _ l.y _ _ c.before.before.loop-y-test.true (passed _ _ c.before.row_usable.ensures c.if-not-row_usable.false-raw) l.invariant

returns-2 : tie.Need-returns invariant-loop decreases-loop
returns-2 c = every_ends _ c.before.loop-y.y _ _ (omega arith) c.before.loop-y.invariant

pub cells_usable_spec : {M : Type 1} → statement M
cells_usable_spec =
    tie.close
    (tie.spec invariant-loop decreases-loop loop-holds
    (λ c κs. let s = c.before.before.before.before.before in (
      s.requires.0,
      s.requires.1,
      omega (arith, in_rows s.args.columns s.args.p.x1 c.before.loop-y.y s.args.p.y1 s.requires.2 c.loop-y-test.true, s.requires.3),
    ))
    returns (λ c. omega arith) (λ c. omega arith) loop-again returns-2)
