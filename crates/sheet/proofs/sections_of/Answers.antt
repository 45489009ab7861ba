use Rattle.std.proofs.Common.{ℕ, ◌≡◌, Result, refl, sym, ap, ◌∙◌, arith, subst}
use Rattle.refusals.specs.declared.Refusal.{Refusal}
use Rattle.refusals.specs.Numbers.{number_of, code_of}
use Rattle.refusals.proofs.Named.{not_zero, passed_on}
use Rattle.sheet.specs.Sheet.{Listed, told, ended}
use Rattle.sheet.proofs.Sheets.{accepted, refused_is, accepted_is, accepted_tool}
use Rattle.sheet.proofs.Enclosures.{accepted_encloses}
use Rattle.sheet.proofs.sections_of.Goals as goal

pub returns-in_err-refusal : goal.returns-in_err-refusal
unfolding code_of told
returns-in_err-refusal c =
    let r = c.in_err-refusal.field-0.0 in
    let q = ap told (passed_on c.from_residual.result r c.from_residual.ensures.1) in
    let none : (told c.from_residual.result).refusal ≡ 0 → ⊥ = λ z. not_zero r (sym (ap (λ (a : Listed). a.refusal) q) ∙ z) in
    record {
      sections_after = ap (λ (a : Listed). ended a c.args.sections.now) q ∙ refused_is _ _ _ _ _ _ _ _ c.body_of-b.ensures c.in_err-refusal.ensures (not_zero r);
      sections_after_2 = λ z. absurd (none z);
      encloses = λ z k. absurd (none z);
    }

pub put_all-n-requires : goal.put_all-n-requires
unfolding code_of
put_all-n-requires c = (accepted _ _ _ _ (sym c.in_ok-refusal.ensures)).fits

pub overflow_cast-result : goal.overflow_cast-result
unfolding code_of
overflow_cast-result c = omega (arith, c.put_all-n.ensures.0, (accepted _ _ _ _ (sym c.in_ok-refusal.ensures)).few)

pub returns : goal.returns
unfolding code_of told
returns c =
    let e = c.in_ok-refusal.ensures in
    let n = c.put_all-n.ensures in
    record {
      sections_after = accepted_is _ _ _ _ _ _ _ _ c.body_of-b.ensures e refl _ _ n.0 n.1;
      sections_after_2 = λ z. accepted_tool _ _ _ _ (sym e) _ _ n.0 n.1;
      encloses = λ z k. accepted_encloses _ _ _ _ _ _ _ c.body_of-b.ensures (sym e) _ n.1 k;
    }
