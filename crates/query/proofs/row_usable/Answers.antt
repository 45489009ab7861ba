-- `query::row_usable` meets its contract: the test of what is left gives what that of all gave.
use Rattle.std.proofs.Common.{refl, sym}
use Rattle.rules.proofs.Testing.{every_stops, every_goes, every_ends}
use Rattle.query.proofs.Gathering.{going_starts, going_turns, going_ends, over_next, over_none}
use Rattle.query.specs.Usable.{row_usable}
use Rattle.query.proofs.row_usable.Goals as goal

pub loop-x-init : goal.loop-x-init
unfolding row_usable
loop-x-init c = (refl, c.requires.6, going_starts)

pub returns-in_err-count : goal.returns-in_err-count
returns-in_err-count c =
    let l = c.loop-x in
    rw c.from_residual.ensures (every_stops _ l.x _ _ c.loop-x-test.true (sym c.in_err-count.ensures.0) l.invariant.0, tt)

pub loop-x-preserved : goal.loop-x-preserved
loop-x-preserved c =
    let l = c.loop-x in
    let t = c.in_ok-count.ensures in
    let h = c.loop-x-test.true in
    (every_goes _ l.x _ _ h (sym t.0) l.invariant.0, t.1.0, going_turns _ _ _ (over_next _ l.x _ h) t.1.1 l.invariant.2)

pub returns : goal.returns
returns c =
    let l = c.loop-x in
    let h = c.loop-x-test.false in
    (every_ends _ l.x _ _ h l.invariant.0, (l.invariant.1, going_ends _ (over_none _ l.x _ h) l.invariant.2))
