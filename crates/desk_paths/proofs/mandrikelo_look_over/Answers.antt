use Rattle.std.proofs.Common.{ap, ◌∙◌}
use Rattle.grid.specs.Index.{index_of}
use Rattle.look_over.specs.Verdict.{look_over_of, told, verdict_number, bad_number, reason_number}
use Rattle.handed.specs.Handed.{header_from}
use Rattle.desk_paths.proofs.Asked.{look_told, verdict_in, refusal_in}
use Rattle.desk_paths.proofs.mandrikelo_look_over.Goals as goal

pub returns : goal.returns
returns c =
    let a = c.args in
    let o = c.look_over-a.result in
    let v = c.unwrap_or-v.ensures ∙ verdict_in o in
    let q = look_told c.header_from.result (header_from a.measures.now a.sizes.now) c.header_from.ensures
    (λ h. index_of a.mesh.now h a.starts.now a.members.now a.boxes.now) a.bytes.now a.sections.now a.tolerance
    (λ ix. look_over_of a.bytes.now ix a.marks.now a.sections.now a.tolerance)
    (told o) _ _ _ _ (c.verdict_number-verdict.ensures ∙ ap verdict_number v) (c.bad_number-bad.ensures ∙ ap bad_number v)
    (c.reason_number-reason.ensures ∙ ap reason_number v) c.look_over-a.ensures.marks_after c.look_over-a.ensures.judged in
    rw (c.code_of.ensures ∙ refusal_in o) (record { finding_after = q.0; told = q.1 })
