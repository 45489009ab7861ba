use Rattle.std.proofs.Common.{ℕ, ◌≡◌, refl, sym, ap, subst, ◌∙◌, Ok, Err, [], ◌∷◌}
use Rattle.grid.specs.declared.Header.{Header}
use Rattle.grid.specs.Index.{index_of}
use Rattle.numbers.specs.Reals.{f0}
use Rattle.refusals.proofs.Named.{not_zero}
use Rattle.parameters.specs.declared.Parameters.{Parameters}
use Rattle.plan.specs.Plan.{told, outcome}
use Rattle.plan.specs.Lost.{NothingLost}
use Rattle.handed.specs.Handed.{header_from}
use Rattle.desk_plan.specs.Plans.{axis_from, plan_along, plan_left, plan_left_by}
use Rattle.desk_plan.proofs.Along.{laid, along_never, lost_laid}
use Rattle.desk_plan.proofs.mandrikelo_plan.Goals as goal

pub returns-in-Ok : goal.returns-in-Ok
unfolding told
returns-in-Ok c =
    let a = c.args in
    let q = c.in-Ok.ensures in
    let x = c.plan_along-planned.new in
    let along : Header → Parameters → _ = λ h p. plan_along (index_of a.mesh.now h a.starts.now a.members.now a.boxes.now) a.marks.now
    a.levels.now a.runs.now p a.axis in
    let e = q.marks_after
    ∙ ap (λ (h : Header). along h c.parameters_from-p.result) c.header_from-h.ensures
    ∙ ap (λ (p : Parameters). along (header_from a.measures.now a.sizes.now) p) c.parameters_from-p.ensures in
    let lost : Header → Parameters → Type 0 = λ h p. (told (Ok c.in-Ok.a)).refusal ≡ 0
    → NothingLost (index_of a.mesh.now h a.starts.now a.members.now a.boxes.now) p (axis_from a.axis) (told (Ok c.in-Ok.a)) in
    let f = subst (λ (p : Parameters). lost (header_from a.measures.now a.sizes.now) p) c.parameters_from-p.ensures
    (subst (λ (h : Header). lost h c.parameters_from-p.result) c.header_from-h.ensures q.nothing_lost) in
    let o = outcome (told (Ok c.in-Ok.a)) x.levels x.runs x.marks in
    record {
      counts_after = laid o _ _ _ c.narrow-level_count.ensures c.narrow-row_count.ensures c.narrow-run_count.ensures ∙ ap plan_left_by e;
      never_seven = along_never _ _ _ _ _ _ o e;
      nothing_lost = lost_laid _ _ _ (told (Ok c.in-Ok.a)) _ refl refl f;
    }

pub returns-in-Err : goal.returns-in-Err
unfolding told
returns-in-Err c =
    let a = c.args in
    let x = c.plan_along-planned.new in
    let r = c.in-Err.refusal in
    let n = c.number.ensures in
    let along : Header → Parameters → _ = λ h p. plan_along (index_of a.mesh.now h a.starts.now a.members.now a.boxes.now) a.marks.now
    a.levels.now a.runs.now p a.axis in
    let e = c.in-Err.ensures.marks_after
    ∙ ap (λ (h : Header). along h c.parameters_from-p.result) c.header_from-h.ensures
    ∙ ap (λ (p : Parameters). along (header_from a.measures.now a.sizes.now) p) c.parameters_from-p.ensures in
    let o = outcome (told (Err r)) x.levels x.runs x.marks in
    record {
      counts_after = ap (λ (k : ℕ). plan_left k x.levels x.runs x.marks (f0 ∷ f0 ∷ []) (0 ∷ 0 ∷ 0 ∷ [])) n ∙ laid o 0 0 0 refl refl refl ∙ ap plan_left_by e;
      never_seven = λ b s. along_never _ _ _ _ _ _ o e b (sym n ∙ s);
      nothing_lost = λ z. absurd (not_zero r (sym n ∙ z));
    }
