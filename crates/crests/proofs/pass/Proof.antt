-- `crests::pass` meets its contract: the best is that of the cells in front of the next, one after the other.
use Prim.Native.Nat.{◌+◌, ◌-◌, ◌*◌, ◌≤◌}
use native.Mathlib.Omega.{arith}
use Rattle.walk.specs.Walk.{over, cell, row, block}
use Rattle.walk.specs.Inside.{seen}
use Rattle.walk.proofs.Rings.{kept_trans, kept_room}
use Rattle.height.specs.Sweep.{disk_step}
use Rattle.crests.proofs.Passing.{walk_one, Along, Gone, along_starts, along_turns, along_ends, gone_starts, gone_turns, gone_ends, gone_halts}
use Rattle.crests.proofs.pass.Statement.{statement}
use Rattle.crests.proofs.pass.Tie as tie

abbrev invariant-loop2 : tie.invariant-loop-x
invariant-loop2 mesh starts members boxes crests marks₀ stamp columns rows q limit x0 x1 y0 y1 found₀ y x₀ marks found x =
    Along stamp (disk_step mesh boxes q) (seen marks₀ found₀) (row starts members columns x0 x1 y) (seen marks found)
    (over (λ k. cell starts members (y * columns + k)) x (x1 - x)) × (x0 ≤ x)

abbrev decreases-loop2 : tie.decreases-loop-x
decreases-loop2 mesh starts members boxes crests marks₀ stamp columns rows q limit x0 x1 y0 y1 found₀ y x₀ marks found x = x1 - x

abbrev invariant-loop : tie.invariant-loop-y
invariant-loop mesh starts members boxes crests marks₀ stamp columns rows q limit x0 x1 y0 y1 found₀ y₀ marks found y =
    Gone stamp (disk_step mesh boxes q) (seen marks₀ found₀) (block starts members columns x0 x1 y0 y1) (seen marks found)
    (block starts members columns x0 x1 y y1) × (y0 ≤ y)

abbrev decreases-loop : tie.decreases-loop-y
decreases-loop mesh starts members boxes crests marks₀ stamp columns rows q limit x0 x1 y0 y1 found₀ y₀ marks found y = y1 - y

loop-holds : tie.Need-loop-y-init invariant-loop2 decreases-loop2 invariant-loop decreases-loop
loop-holds c = (gone_starts c.before.before.before.before.before.before.requires.7, omega arith)

same_length : tie.Need-shape_of-marks-then-best-limit invariant-loop2 decreases-loop2 invariant-loop decreases-loop
same_length c = c.before.before.before.before.loop-y.invariant.0.kept.size

returns : tie.Need-returns-then-best-limit invariant-loop2 decreases-loop2 invariant-loop decreases-loop
returns c =
    let l = c.before.before.before.before.loop-y.invariant.0 in
    (gone_halts _ _ c.if-best-limit.true l, l.kept.size, l.fair.below)

loop2-holds : tie.Need-loop-x-init invariant-loop2 decreases-loop2 invariant-loop decreases-loop
loop2-holds c = (along_starts c.before.before.before.before.loop-y.invariant.0.fair, omega arith)

pass_cell-requires : tie.Need-pass_cell-found-requires invariant-loop2 decreases-loop2 invariant-loop decreases-loop
pass_cell-requires c κs =
    let s = c.before.before.before.before.before.before.before.before.before.before.before.before.before.before in
    let l = c.before.before.before.before.before.before.before.loop-y in
    let m = c.before.before.loop-x in
    let k = kept_trans l.invariant.0.kept m.invariant.0.kept in
    let x = c.before.loop-x-test.true in
    let y = c.before.before.before.before.before.before.loop-y-test.true in (
      omega (arith, s.requires.0, k.size),
      omega (arith, s.requires.1, k.size),
      s.requires.3.size,
      walk_one _ _ _ _ m.x l.y _ _ _ _ (rw k.size s.requires.2) m.invariant.1 x l.invariant.1 y,
      omega (arith, x, s),
      omega (arith, y, s),
      s.requires.3.over m.x l.y (omega (arith, x, s.requires.4)) (omega (arith, y, s.requires.5)),
      kept_room k s.requires.6,
      m.invariant.0.fair,
    )

add-x : tie.Need-overflow_step-x invariant-loop2 decreases-loop2 invariant-loop decreases-loop
add-x c = omega (
  arith,
  c.before.before.before.before.loop-x-test.true,
  c.before.before.before.before.before.before.before.before.before.before.before.before.before.before.before.before.before,
)

loop2-less : tie.Need-loop-x-smaller invariant-loop2 decreases-loop2 invariant-loop decreases-loop
loop2-less c = omega (arith, c.before.before.before.before.loop-x-test.true)

loop2-again : tie.Need-loop-x-preserved invariant-loop2 decreases-loop2 invariant-loop decreases-loop
loop2-again c = (
  along_turns _ c.before.before.before.before.before.loop-x.x _ c.before.before.before.before.loop-x-test.true
      c.before.before.before.before.before.loop-x.invariant.0 c.before.before.pass_cell-found.ensures,
  omega (arith, c.before.before.before.before.before.loop-x.invariant.1),
)

add-y : tie.Need-overflow_step-y invariant-loop2 decreases-loop2 invariant-loop decreases-loop
add-y c = omega (
  arith,
  c.before.before.before.before.before.loop-y-test.true,
  c.before.before.before.before.before.before.before.before.before.before.before.before.before,
)

loop-less : tie.Need-loop-y-smaller invariant-loop2 decreases-loop2 invariant-loop decreases-loop
loop-less c = omega (arith, c.before.before.before.before.before.loop-y-test.true)

loop-again : tie.Need-loop-y-preserved invariant-loop2 decreases-loop2 invariant-loop decreases-loop
loop-again c =
    let l = c.before.before.before.before.before.before.loop-y in
    let m = c.before.loop-x.invariant.0 in (
      gone_turns _ l.y _ c.before.before.before.before.before.loop-y-test.true l.invariant.0
          (along_ends _ c.before.loop-x.x _ (omega (arith, c.loop-x-test.false)) m) m.fair m.kept,
      omega (arith, l.invariant.1),
    )

same_length-2 : tie.Need-shape_of-marks invariant-loop2 decreases-loop2 invariant-loop decreases-loop
same_length-2 c = c.before.loop-y.invariant.0.kept.size

returns-2 : tie.Need-returns invariant-loop2 decreases-loop2 invariant-loop decreases-loop
returns-2 c =
    let l = c.before.loop-y.invariant.0 in
    (gone_ends _ c.before.loop-y.y _ _ (omega (arith, c.loop-y-test.false)) l, l.kept.size, l.fair.below)

pub pass_spec : {M : Type 1} → statement M
pass_spec =
    tie.close
    (tie.spec
    invariant-loop2
    decreases-loop2
    invariant-loop
    decreases-loop
    loop-holds
    same_length
    returns
    loop2-holds
    pass_cell-requires
    add-x
    loop2-less
    loop2-again
    add-y
    loop-less
    loop-again
    same_length-2
    returns-2)
