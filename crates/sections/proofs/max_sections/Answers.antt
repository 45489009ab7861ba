-- The question over what is copied is the question over the list; the promise follows from the answer.
use Rattle.std.proofs.Common.{◌≡◌, ap, sym, ◌∙◌}
use Rattle.grid.specs.Index.{index_of}
use Rattle.tips.specs.Contact.{max_sections_of}
use Rattle.tips.proofs.Asking.{tool_promise}
use Rattle.sections.proofs.Alike.{max_copied}
use Rattle.sections.proofs.max_sections.Goals as goal

pub returns-clause-marks_after : goal.returns-clause-marks_after
returns-clause-marks_after c =
    let a = c.args in
    let ix = index_of a.mesh.now a.h a.starts.now a.members.now a.boxes.now in
    c.max_over.ensures ∙ ap (max_sections_of ix a.marks.now a.stamp a.px a.py) c.flat-t.ensures.1 ∙ max_copied ix a.marks.now a.stamp a.sections.now a.px a.py

pub returns-clause-sections_promise : goal.returns-clause-sections_promise
returns-clause-sections_promise c = tool_promise _ _ _ _ _ _ _ _ (returns-clause-marks_after c)
