use Rattle.std.proofs.Common.{arith}
use Rattle.walk.proofs.Rings.{member_turns, members_end, look_keeps}
use Rattle.walk.proofs.visit_cell.Goals as goal

pub loop-i-preserved : goal.loop-i-preserved
loop-i-preserved g c =
    let l = c.loop-i in
    let below = c.requires.0 l.i-index (omega arith) in
    (member_turns l.i-index (omega arith) (look_keeps _ _ _ _ (omega (arith, below, l.invariant.0.kept.size))) l.invariant.0 c.look_at-found.ensures.0, omega arith, c.look_at-found.ensures.1)

pub returns : goal.returns
returns g c = (members_end c.loop-i.i-index (omega arith) c.loop-i.invariant.0, c.loop-i.invariant.2)
