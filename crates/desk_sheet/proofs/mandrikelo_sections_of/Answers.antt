use Rattle.std.proofs.Common.{ℕ, ◌≡◌, ◌*◌, Bool, true, List, take, sym, ap, subst, ◌∙◌, Result, Ok, Err, Float}
use Rattle.std.specs.Result.{result_unwrap_or}
use Rattle.refusals.specs.declared.Refusal.{Refusal}
use Rattle.refusals.specs.Numbers.{code_of}
use Rattle.tool.specs.Tool.{is_tool}
use Rattle.sheet.specs.declared.Shape.{Shape}
use Rattle.sheet.specs.declared.Sheet.{Sheet}
use Rattle.sheet.specs.Sheet.{Listed, told, ended, Outcome, radius_of, sheet_of}
use Rattle.sheet.specs.Enclosing.{is_curved, Encloses}
use Rattle.desk_sheet.specs.Sheets.{sheet_left_by}
use Rattle.desk_sheet.proofs.mandrikelo_sections_of.Goals as goal

-- what C is answered tells what the library answered
abbrev listed : ℕ → ℕ → Listed
listed k n = record { refusal = k; count = n }

as_told : (a : Result ℕ Refusal) (k n : ℕ) → k ≡ code_of a → n ≡ result_unwrap_or a 0 → listed k n ≡ told a
unfolding told code_of
as_told (Ok m) k n p q = rw (p, q)
as_told (Err r) k n p q = rw (p, q)

-- the shape and the sheet as they were read
left_is : (o : Outcome) (s t : Shape) (enclose neck : Bool) (p q : Sheet) (hs table : List Float) → o ≡ sheet_of s enclose neck p hs table → s ≡ t → p ≡ q
    → sheet_left_by o ≡ sheet_left_by (sheet_of t enclose neck q hs table)
left_is o s t enclose neck p q hs table e a b =
    ap sheet_left_by (e ∙ ap (λ (x : Shape). sheet_of x enclose neck p hs table) a ∙ ap (λ (x : Sheet). sheet_of t enclose neck x hs table) b)

encloses_is : (s t : Shape) (p q : Sheet) (table : List Float) → (is_curved s ≡ true → Encloses (radius_of p) table) → s ≡ t → p ≡ q → is_curved t ≡ true
    → Encloses (radius_of q) table
encloses_is s t p q table e a b c = subst (λ (x : Sheet). Encloses (radius_of x) table) b (e (ap is_curved a ∙ c))

pub returns : goal.returns
unfolding sheet_left_by
returns c =
    let s = c.shape_from.ensures.value in
    let f = c.sheet_from.ensures in
    let e = c.sections_of-a.ensures in
    let t = c.sections_of-a.new.sections in
    let q = as_told _ _ _ c.code_of-k.ensures c.unwrap_or-n.ensures in
    record {
      count_after = ap (λ (l : Listed). sheet_left_by (ended l t)) q ∙ left_is _ _ _ _ _ _ _ _ _ e.sections_after s f;
      sections_after = subst (λ (l : Listed). l.refusal ≡ 0 → is_tool (take (4 * l.count) t) ≡ true) (sym q) e.sections_after_2;
      encloses = λ z k. encloses_is _ _ _ _ _ (e.encloses (sym (ap (λ (l : Listed). l.refusal) q) ∙ z)) s f k;
    }
