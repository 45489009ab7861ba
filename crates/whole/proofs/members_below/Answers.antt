use native.Mathlib.Omega.{arith}
use borrow.Author.Tests.{lt-ltb, le-ltb}
use Rattle.rules.proofs.Testing.{each_stops, each_goes, each_ends}
use Rattle.whole.proofs.members_below.Goals as goal

pub returns-then-i-n : goal.returns-then-i-n
returns-then-i-n c =
    let l = c.loop-i in each_stops _ _ l.i-index (omega (arith, c.loop-i-test.true)) (le-ltb _ _ c.if-i-n.true) l.invariant

pub loop-i-preserved : goal.loop-i-preserved
loop-i-preserved c =
    let l = c.loop-i in each_goes _ _ l.i-index (omega (arith, c.loop-i-test.true)) (lt-ltb _ _ c.if-i-n.false) l.invariant

pub returns : goal.returns
returns c = each_ends _ _ c.loop-i.i-index (omega (arith, c.loop-i-test.false)) c.loop-i.invariant
