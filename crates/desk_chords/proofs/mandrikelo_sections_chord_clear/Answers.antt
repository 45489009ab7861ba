-- `desk_chords::mandrikelo_sections_chord_clear` meets its contract: what the library says of the header that was read holds of the one that the arrays stand for.
use Rattle.grid.specs.Index.{index_of}
use Rattle.reach.specs.declared.Chord.{Chord}
use Rattle.ask.specs.Ask.{ruling_told}
use Rattle.chords.specs.Chords.{sections_chord_of, SectionsChordPromise}
use Rattle.handed.specs.Handed.{header_from}
use Rattle.desk_chords.proofs.Asked.{verdict_told}
use Rattle.desk_chords.proofs.mandrikelo_sections_chord_clear.Goals as goal

pub returns-clause-counts_after : goal.returns-clause-counts_after
returns-clause-counts_after c =
    let a = c.args in
    let q = c.sections_chord_clear-a in
    let m : Chord = record { ax = a.ax; ay = a.ay; az = a.az; bx = a.bx; by = a.by; bz = a.bz; lift = a.lift } in
    (verdict_told c.header_from.result (header_from a.measures.now a.sizes.now) c.header_from.ensures
    (λ h. sections_chord_of (index_of a.mesh.now h a.starts.now a.members.now a.boxes.now) a.marks.now a.stamp m a.sections.now)
    (λ h w. SectionsChordPromise (index_of a.mesh.now h a.starts.now a.members.now a.boxes.now) a.marks.now a.stamp m a.sections.now w)
    (ruling_told q.result a.stamp) _ _ _ c.lay.ensures q.ensures.marks_after q.ensures.sections_chord_promise).0

pub returns-clause-sections_chord_promise : goal.returns-clause-sections_chord_promise
returns-clause-sections_chord_promise c =
    let a = c.args in
    let q = c.sections_chord_clear-a in
    let m : Chord = record { ax = a.ax; ay = a.ay; az = a.az; bx = a.bx; by = a.by; bz = a.bz; lift = a.lift } in
    (verdict_told c.header_from.result (header_from a.measures.now a.sizes.now) c.header_from.ensures
    (λ h. sections_chord_of (index_of a.mesh.now h a.starts.now a.members.now a.boxes.now) a.marks.now a.stamp m a.sections.now)
    (λ h w. SectionsChordPromise (index_of a.mesh.now h a.starts.now a.members.now a.boxes.now) a.marks.now a.stamp m a.sections.now w)
    (ruling_told q.result a.stamp) _ _ _ c.lay.ensures q.ensures.marks_after q.ensures.sections_chord_promise).1
