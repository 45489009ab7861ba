-- `checked::covers` meets its contract.
use Prim.Native.Nat.{◌<◌}
use mathlib.Core.Path.{refl, sym, subst⁻¹, ◌∙◌}
use borrow.Author.Tests.{not-true, not-false}
use Rattle.rules.proofs.Branches.{and_on, and_off}
use Rattle.plane.specs.declared.Bounds.{Bounds}
use Rattle.spans.specs.Inside.{Near}
use Rattle.checked.proofs.Comparing.{columns_of, rows_of}
use Rattle.checked.proofs.covers.Statement.{statement}
use Rattle.checked.proofs.covers.Tie as tie

stretch_of-requires : tie.Need-stretch_of-s-requires
stretch_of-requires c κs =
    let s = c.before.before in
    let g = s.args.g in
    subst⁻¹ (λ (b : Bounds). (0 < g.columns) × Near g.x g.size b.low_x × Near g.x g.size b.high_x) c.box_at-b.ensures
    (s.requires.0.0, s.requires.1.left, s.requires.1.right)

stretch_of-requires-2 : tie.Need-stretch_of-t-requires
stretch_of-requires-2 c κs =
    let s = c.before.before.before.before.before in
    let g = s.args.g in
    subst⁻¹ (λ (b : Bounds). (0 < g.rows) × Near g.y g.size b.low_y × Near g.y g.size b.high_y)
    c.before.before.before.box_at-b.ensures
    (s.requires.0.1, s.requires.1.bottom, s.requires.1.top)

returns : tie.Need-returns-then-not-is_from
returns c =
    let f = c.before.is_from.ensures in
    let e = columns_of _ _ _ c.before.before.before.box_at-b.ensures _ _ c.before.before.stretch_of-s.ensures in
    and_off _ _ _ (sym e ∙ sym f ∙ c.if-not-is_from.true) refl

returns-2 : tie.Need-returns
returns-2 c =
    let d = c.before.before in
    let b = d.before.before.before.box_at-b.ensures in
    let e = columns_of _ _ _ b _ _ d.before.before.stretch_of-s.ensures in
    let h = rows_of _ _ _ b _ _ c.before.stretch_of-t.ensures in
    and_on _ _ _ (sym e ∙ sym d.before.is_from.ensures ∙ d.if-not-is_from.false) (c.is_from-2.ensures ∙ h)

pub covers_spec : {M : Type 1} → statement M
covers_spec =
    tie.close
    (tie.spec (λ c κs. c.before.requires.0.2) stretch_of-requires (λ c κs. tt) returns stretch_of-requires-2 (λ c κs. tt) returns-2)
