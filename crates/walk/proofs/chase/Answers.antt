-- Once a triangle blocks, nothing that is left changes anything.
use Rattle.std.proofs.Common.{length, ap, ◌∙◌, arith}
use borrow.Author.Tests.{not-true, not-false}
use Rattle.walk.specs.Walk.{fold}
use Rattle.walk.specs.Inside.{Below}
use Rattle.walk.proofs.Rings.{member_turns, members_end, ring_turns, ring_ends, member_blocks, ring_blocks, kept_trans, kept_room, strike_keeps}
use Rattle.walk.proofs.chase.Goals as goal

pub stretch-numbers-requires : goal.stretch-numbers-requires
stretch-numbers-requires g c =
    c.requires.0.stretch c.loop-x.x c.rows.y c.loop-x.invariant.1 c.loop-x-test.true c.rows.invariant.1 c.rows-test.true

pub overflow_mul-y : goal.overflow_mul-y
overflow_mul-y g c =
    let i = (c.requires.0.stretch c.loop-x.x c.rows.y c.loop-x.invariant.1 c.loop-x-test.true c.rows.invariant.1 c.rows-test.true).inside in
    record { fits = omega (arith, i) }

pub overflow_add-y : goal.overflow_add-y
overflow_add-y g c =
    let i = (c.requires.0.stretch c.loop-x.x c.rows.y c.loop-x.invariant.1 c.loop-x-test.true c.rows.invariant.1 c.rows-test.true).inside in
    record { fits = omega (arith, i) }

pub strike_at-v-requires : goal.strike_at-v-requires
strike_at-v-requires g c =
    let k = kept_trans (kept_trans c.rows.invariant.0.kept c.loop-x.invariant.0.kept) c.loop-i.invariant.0.kept in
    let b = c.requires.0.below c.loop-x.x c.rows.y c.loop-x.invariant.1 c.loop-x-test.true c.rows.invariant.1 c.rows-test.true in
    let a : Below (length c.loop-i.marks) c.stretch-numbers.result.now = rw (c.stretch-numbers.ensures, k.size) b in
    let i = a c.loop-i.i-index (omega arith) in
    (i, kept_room k c.requires.1, c.requires.2 _ (rw k.size at i), c.loop-i.invariant.2)

pub loop-i-preserved : goal.loop-i-preserved
loop-i-preserved g c =
    let l = c.loop-i in
    let k = kept_trans (kept_trans c.rows.invariant.0.kept c.loop-x.invariant.0.kept) l.invariant.0.kept in
    let b = c.requires.0.below c.loop-x.x c.rows.y c.loop-x.invariant.1 c.loop-x-test.true c.rows.invariant.1 c.rows-test.true in
    let a : Below (length l.marks) c.stretch-numbers.result.now = rw (c.stretch-numbers.ensures, k.size) b in (
      member_turns l.i-index (omega arith) (strike_keeps _ _ _ _ (a l.i-index (omega arith))) l.invariant.0 c.strike_at-v.ensures,
      omega arith,
      not-false _ c.if-not-v.false,
    )

pub loop-x-preserved : goal.loop-x-preserved
loop-x-preserved g c =
    let l = c.loop-i.invariant in (
      ring_turns _ c.loop-x.x _ c.loop-x-test.true l.0.kept c.loop-x.invariant.0
          (members_end c.loop-i.i-index (omega arith) l.0 ∙ ap (fold _ _) c.stretch-numbers.ensures),
      omega arith,
      l.2,
    )

pub rows-preserved : goal.rows-preserved
rows-preserved g c =
    let l = c.loop-x.invariant in
    (ring_turns _ c.rows.y _ c.rows-test.true l.0.kept c.rows.invariant.0 (ring_ends _ c.loop-x.x _ (omega arith) l.0), omega arith, l.2)

pub returns-after-rows : goal.returns-after-rows
returns-after-rows g c = ring_ends _ c.rows.y _ (omega arith) c.rows.invariant.0

pub returns-then-not-v : goal.returns-then-not-v
returns-then-not-v g c =
    let n = not-true _ c.if-not-v.true in
    let e = member_blocks _ c.loop-i.i-index (omega arith) c.loop-i.invariant.0 c.strike_at-v.ensures n in
    let f = ring_blocks _ _ c.loop-x.x _ c.loop-x-test.true c.loop-x.invariant.0 (e ∙ ap (fold _ _) c.stretch-numbers.ensures) n in
    ring_blocks _ _ c.rows.y _ c.rows-test.true c.rows.invariant.0 f n
