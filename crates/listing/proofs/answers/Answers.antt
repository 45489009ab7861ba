use Rattle.std.proofs.Common.{arith}
use Rattle.listing.proofs.Telling.{told_more, told_ends, answers_more, answers_end}
use Rattle.listing.proofs.answers.Goals as goal
use Rattle.listing.proofs.answers.Goals.{in-Ok, in-Err}

pub loop-i-preserved : goal.loop-i-preserved
loop-i-preserved c =
    let l = c.loop-i in
    let h = c.loop-i-test.true in
    elim c.match-asked.branch [
      | in-Ok w ↦
          let t = w.answer_line-end.ensures in
          rw (w.out-is, w.stamp-is, w.end-is)
          (told_more l.invariant.0 (answers_more _ _ _ _ _ l.i _ _ h w.in-Ok.ensures) t.0, omega (arith, l.invariant.1, t.1))
      | in-Err w ↦
          let t = w.answer_line-end-in-Err.ensures in
          rw (w.out-is, w.stamp-is, w.end-is)
          (told_more l.invariant.0 (answers_more _ _ _ _ _ l.i _ _ h w.in-Err.ensures) (rw w.number.ensures at t.0), omega (arith, l.invariant.1, t.1))
    ]

pub returns : goal.returns
returns c =
    let l = c.loop-i in
    let h = c.loop-i-test.false in
    (told_ends l.invariant.0 (answers_end _ _ _ _ _ l.i h), omega (arith, l.invariant.1, l.auto.i-end))
