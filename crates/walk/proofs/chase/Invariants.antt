-- What is left of a ring, walked from here, gives what the whole ring gave from its start.
use Rattle.std.proofs.Common.{◌≡◌, true, ◌+◌, ◌-◌, ◌*◌, ◌≤◌, length, drop}
use Rattle.walk.specs.Walk.{over, cell, row, block}
use Rattle.walk.specs.Inside.{judged, strike}
use Rattle.walk.proofs.Rings.{Going}
use Rattle.walk.proofs.chase.Given as goal

abbrev pub invariant-rows : goal.invariant-rows
invariant-rows g l =
    Going l.stamp (strike l.stamp (g.Q.Block.blocks l.q)) (judged l.initial.marks l.initial.v) (block l.starts l.members l.columns l.x0 l.x1 l.y0 l.y1)
    (judged l.marks l.v) (block l.starts l.members l.columns l.x0 l.x1 l.y l.y1)
    × (l.y0 ≤ l.y)
    × (l.v.clear ≡ true)

abbrev pub invariant-loop-x : goal.invariant-loop-x
invariant-loop-x g l =
    Going l.stamp (strike l.stamp (g.Q.Block.blocks l.q)) (judged l.initial.marks l.initial.v) (row l.starts l.members l.columns l.x0 l.x1 l.y)
    (judged l.marks l.v) (over (λ k. cell l.starts l.members (l.y * l.columns + k)) l.x (l.x1 - l.x))
    × (l.x0 ≤ l.x)
    × (l.v.clear ≡ true)

abbrev pub invariant-loop-i : goal.invariant-loop-i
invariant-loop-i g l =
    Going l.stamp (strike l.stamp (g.Q.Block.blocks l.q)) (judged l.initial.marks l.initial.v) l.numbers (judged l.marks l.v) (drop l.i-index l.numbers)
    × (l.i-index ≤ length l.numbers)
    × (l.v.clear ≡ true)
