-- `desk::mandrikelo_max_bull` meets its contract: what the library says of the header that was read holds of the one that the arrays stand for.
use Rattle.grid.specs.Index.{index_of}
use Rattle.ask.specs.Ask.{answer_told}
use Rattle.tips.specs.Contact.{max_bull_of, BullPromise}
use Rattle.handed.specs.Handed.{header_from}
use Rattle.desk.proofs.Asked.{height_told}
use Rattle.desk.proofs.mandrikelo_max_bull.Goals as goal

pub returns-clause-touched_after : goal.returns-clause-touched_after
returns-clause-touched_after c =
    let a = c.args in
    let q = c.max_bull-a in
    (height_told c.header_from.result (header_from a.measures.now a.sizes.now) c.header_from.ensures
    (λ h. max_bull_of (index_of a.mesh.now h a.starts.now a.members.now a.boxes.now) a.marks.now a.stamp (record { x = a.px; y = a.py; r = a.r; rc = a.rc }))
    (λ h w. BullPromise (index_of a.mesh.now h a.starts.now a.members.now a.boxes.now) a.marks.now a.stamp (record { x = a.px; y = a.py; r = a.r; rc = a.rc }) w)
    (answer_told q.result a.stamp) _ _ _ _ _ c.lay.ensures q.ensures.marks_after q.ensures.bull_promise).0

pub returns-clause-bull_promise : goal.returns-clause-bull_promise
returns-clause-bull_promise c =
    let a = c.args in
    let q = c.max_bull-a in
    (height_told c.header_from.result (header_from a.measures.now a.sizes.now) c.header_from.ensures
    (λ h. max_bull_of (index_of a.mesh.now h a.starts.now a.members.now a.boxes.now) a.marks.now a.stamp (record { x = a.px; y = a.py; r = a.r; rc = a.rc }))
    (λ h w. BullPromise (index_of a.mesh.now h a.starts.now a.members.now a.boxes.now) a.marks.now a.stamp (record { x = a.px; y = a.py; r = a.r; rc = a.rc }) w)
    (answer_told q.result a.stamp) _ _ _ _ _ c.lay.ensures q.ensures.marks_after q.ensures.bull_promise).1
