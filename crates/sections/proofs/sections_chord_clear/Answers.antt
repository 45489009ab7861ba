-- The question over what is copied is the question over the list; the promise follows from the answer.
use Rattle.std.proofs.Common.{◌≡◌, ap, sym, ◌∙◌}
use Rattle.grid.specs.Index.{index_of}
use Rattle.chords.specs.Chords.{sections_chord_of}
use Rattle.chords.proofs.Asking.{tool_promise}
use Rattle.sections.proofs.Alike.{chord_copied}
use Rattle.sections.proofs.sections_chord_clear.Goals as goal

pub returns-clause-marks_after : goal.returns-clause-marks_after
returns-clause-marks_after c =
    let a = c.args in
    let ix = index_of a.mesh.now a.h a.starts.now a.members.now a.boxes.now in
    c.chord_over.ensures ∙ ap (sections_chord_of ix a.marks.now a.stamp a.m) c.flat-t.ensures.1 ∙ chord_copied ix a.marks.now a.stamp a.sections.now a.m

pub returns-clause-sections_chord_promise : goal.returns-clause-sections_chord_promise
returns-clause-sections_chord_promise c = tool_promise _ _ _ _ _ _ _ (returns-clause-marks_after c)
