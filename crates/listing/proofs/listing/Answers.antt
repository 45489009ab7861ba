use mathlib.Core.Path.{refl, sym, ap, ◌∙◌}
use native.Mathlib.Omega.{arith}
use lib.Seq.{length-take-le}
use Rattle.std.proofs.Common.{rules}
use Rattle.lines.specs.Lines.{refused_line}
use Rattle.refusals.proofs.Named.{numbered}
use Rattle.job.proofs.Reading.{room_for}
use Rattle.listing.proofs.Telling.{read_not, read_is, enough}
use Rattle.listing.proofs.listing.Goals as goal

pub returns-in-Err : goal.returns-in-Err
returns-in-Err c =
    let w = c.refused_line.ensures in (
      w.0.text ∙ ap refused_line c.number.ensures ∙ read_not _ _ _ _ c.in-Err.ensures.questions_after (λ z. omega (arith, numbered c.in-Err.refusal)),
      omega (arith, w.1, c.refused_line.auto.out),
      enough _,
      w.0.rest,
    )

pub slice_bounds-mesh-end : goal.slice_bounds-mesh-end
slice_bounds-mesh-end c = omega (arith, (room_for _ _ _ _ c.in-Ok.ensures.questions_after refl).0, c.read_job.auto.mesh)

pub slice_bounds-listed-end : goal.slice_bounds-listed-end
slice_bounds-listed-end c =
    sym (length-take-le _ _ (omega (arith, (room_for _ _ _ _ c.in-Ok.ensures.questions_after refl).0, c.read_job.auto.mesh)))

pub slice_bounds-questions-end : goal.slice_bounds-questions-end
slice_bounds-questions-end c = omega (arith, (room_for _ _ _ _ c.in-Ok.ensures.questions_after refl).1, c.read_job.auto.questions)

pub slice_bounds-listed-end-2 : goal.slice_bounds-listed-end-2
slice_bounds-listed-end-2 c =
    sym (length-take-le _ _ (omega (arith, (room_for _ _ _ _ c.in-Ok.ensures.questions_after refl).1, c.read_job.auto.questions)))

pub slice_bounds-boxes-end : goal.slice_bounds-boxes-end
slice_bounds-boxes-end c = omega (arith, (room_for _ _ _ _ c.in-Ok.ensures.questions_after refl).0, c.read_job.auto.mesh)

pub slice_bounds-listed-end-3 : goal.slice_bounds-listed-end-3
slice_bounds-listed-end-3 c =
    sym (length-take-le _ _ (omega (arith, (room_for _ _ _ _ c.in-Ok.ensures.questions_after refl).0, c.read_job.auto.mesh)))

pub listed-requires : goal.listed-requires
listed-requires c =
    let h = room_for _ _ _ _ c.in-Ok.ensures.questions_after refl in
    (omega (arith, h.0, c.read_job.auto.mesh), omega (arith, h.1, c.read_job.auto.questions), length-take-le _ _ (omega (arith, h.1, c.read_job.auto.questions)), search rules)

pub returns : goal.returns
returns c =
    let w = c.listed.ensures in
    let h = room_for _ _ _ _ c.in-Ok.ensures.questions_after refl in (
      w.0.text ∙ read_is _ _ _ _ c.in-Ok.ensures.questions_after 1280 (omega (arith, h.0, c.read_job.auto.mesh)) refl,
      omega (arith, w.1, c.listed.auto.out),
      enough _,
      w.0.rest,
    )
