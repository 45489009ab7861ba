use Rattle.std.proofs.Common.{ap, ◌∙◌, arith}
use Rattle.walk.specs.Walk.{fold}
use Rattle.walk.proofs.Rings.{ring_turns, ring_ends, kept_trans, kept_room, cell_keeps}
use Rattle.walk.proofs.visit.Goals as goal

pub stretch-part-requires : goal.stretch-part-requires
stretch-part-requires g c =
    c.requires.0.stretch c.loop-x.x c.loop-y.y c.loop-x.invariant.1 c.loop-x-test.true c.loop-y.invariant.1 c.loop-y-test.true

pub overflow_mul-y : goal.overflow_mul-y
overflow_mul-y g c =
    let i = (c.requires.0.stretch c.loop-x.x c.loop-y.y c.loop-x.invariant.1 c.loop-x-test.true c.loop-y.invariant.1 c.loop-y-test.true).inside in
    record { fits = omega (arith, i) }

pub overflow_add-y : goal.overflow_add-y
overflow_add-y g c =
    let i = (c.requires.0.stretch c.loop-x.x c.loop-y.y c.loop-x.invariant.1 c.loop-x-test.true c.loop-y.invariant.1 c.loop-y-test.true).inside in
    record { fits = omega (arith, i) }

pub visit_cell-found-requires : goal.visit_cell-found-requires
visit_cell-found-requires g c =
    let k = kept_trans c.loop-y.invariant.0.kept c.loop-x.invariant.0.kept in
    let b = c.requires.0.below c.loop-x.x c.loop-y.y c.loop-x.invariant.1 c.loop-x-test.true c.loop-y.invariant.1 c.loop-y-test.true in
    (rw (c.stretch-part.ensures, k.size) b, kept_room k c.requires.1, rw k.size c.requires.2, c.loop-x.invariant.2)

pub loop-x-preserved : goal.loop-x-preserved
loop-x-preserved g c =
    let k = kept_trans c.loop-y.invariant.0.kept c.loop-x.invariant.0.kept in
    let b = c.requires.0.below c.loop-x.x c.loop-y.y c.loop-x.invariant.1 c.loop-x-test.true c.loop-y.invariant.1 c.loop-y-test.true in
    let e = c.visit_cell-found.ensures.0 ∙ ap (fold _ _) c.stretch-part.ensures in
    (ring_turns _ c.loop-x.x _ c.loop-x-test.true (cell_keeps _ _ _ e (rw k.size b)) c.loop-x.invariant.0 e, omega arith, c.visit_cell-found.ensures.1)

pub loop-y-preserved : goal.loop-y-preserved
loop-y-preserved g c =
    let l = c.loop-x.invariant.0 in
    (ring_turns _ c.loop-y.y _ c.loop-y-test.true l.kept c.loop-y.invariant.0 (ring_ends _ c.loop-x.x _ (omega arith) l), omega arith, c.loop-x.invariant.2)

pub returns : goal.returns
returns g c = (ring_ends _ c.loop-y.y _ (omega arith) c.loop-y.invariant.0, c.loop-y.invariant.2)
