-- `query::members_usable` meets its contract: the test of the numbers that are left gives what that of all gave.
use Rattle.std.proofs.Common.{sym}
use lib.ListN.{drop_of_length-le}
use Rattle.rules.proofs.Testing.{each_stops, each_goes, each_ends}
use Rattle.query.proofs.Gathering.{going_turns, going_ends, drop_next}
use Rattle.query.proofs.members_usable.Goals as goal

pub returns-in_err-count : goal.returns-in_err-count
returns-in_err-count c =
    let l = c.loop-i in
    rw c.from_residual.ensures (each_stops _ _ l.i-index c.loop-i-test.true (sym c.in_err-count.ensures.0) l.invariant.0, tt)

pub loop-i-preserved : goal.loop-i-preserved
loop-i-preserved c =
    let l = c.loop-i in
    let t = c.in_ok-count.ensures in
    let h = c.loop-i-test.true in
    (each_goes _ _ l.i-index h (sym t.0) l.invariant.0, t.1.0, going_turns _ _ _ (drop_next _ l.i-index h) t.1.1 l.invariant.2)

pub returns : goal.returns
returns c =
    let l = c.loop-i in
    let h = c.loop-i-test.false in
    (each_ends _ _ l.i-index h l.invariant.0, (l.invariant.1, going_ends _ (drop_of_length-le _ {i = l.i-index} h) l.invariant.2))
