-- `query::cells_usable` meets its contract: the test of what is left gives what that of all gave.
use Rattle.std.proofs.Common.{refl, sym}
use Rattle.rules.proofs.Testing.{every_stops, every_goes, every_ends}
use Rattle.query.proofs.Gathering.{going_starts, going_turns, going_ends, over_next, over_none}
use Rattle.query.specs.Usable.{cells_usable}
use Rattle.query.proofs.cells_usable.Goals as goal

pub loop-y-init : goal.loop-y-init
unfolding cells_usable
loop-y-init c = (refl, c.requires.7, going_starts)

pub returns-in_err-count : goal.returns-in_err-count
returns-in_err-count c =
    let l = c.loop-y in
    rw c.from_residual.ensures (every_stops _ l.y _ _ c.loop-y-test.true (sym c.in_err-count.ensures.0) l.invariant.0, tt)

pub loop-y-preserved : goal.loop-y-preserved
loop-y-preserved c =
    let l = c.loop-y in
    let t = c.in_ok-count.ensures in
    let h = c.loop-y-test.true in
    (every_goes _ l.y _ _ h (sym t.0) l.invariant.0, t.1.0, going_turns _ _ _ (over_next _ l.y _ h) t.1.1 l.invariant.2)

pub returns : goal.returns
returns c =
    let l = c.loop-y in
    let h = c.loop-y-test.false in
    (every_ends _ l.y _ _ h l.invariant.0, (l.invariant.1, going_ends _ (over_none _ l.y _ h) l.invariant.2))
