use mathlib.Core.Path.{sym, subst, ◌∙◌}
use lib.Dec.{T}
use Rattle.rules.proofs.Branches.{no}
use Rattle.section.proofs.Slides.{around}
use Rattle.section.proofs.slide.lies.Statement.{statement}
use Rattle.section.proofs.slide.lies.Tie as tie

returns : tie.Need-returns-then-q-beyond
returns c =
    let a = c.before.before.before.before.before.before.before.before.before in
    λ e. around _ _ _ _ _ _ _
    (sym c.before.before.before.before.before.before.before.before.is_coordinate.ensures
    ∙ c.before.before.before.before.before.before.before.if-is_coordinate.true)
    (sym c.before.before.before.before.before.before.is_radius.ensures ∙ c.before.before.before.before.before.if-is_radius.true)
    (sym c.before.before.before.before.is_radius-then-is_radius.ensures ∙ c.before.before.before.if-is_radius-2.true)
    (subst T (sym a.well_formed.1.0.1) tt)
    (subst T (sym a.well_formed.1.1.0.1) tt)
    c.before.before.beyond.ensures c.within.ensures c.before.if-q-beyond.true e

returns-2 : tie.Need-returns-else-q-beyond
returns-2 c = λ e. absurd (no (sym c.if-q-beyond.false ∙ e))

returns-3 : tie.Need-returns-else-is_radius-2
returns-3 c = λ e. absurd (no (sym c.if-is_radius-2.false ∙ e))

returns-4 : tie.Need-returns-else-is_radius
returns-4 c = λ e. absurd (no (sym c.if-is_radius.false ∙ e))

returns-5 : tie.Need-returns-else-is_coordinate
returns-5 c = λ e. absurd (no (sym c.if-is_coordinate.false ∙ e))

pub lies_spec : {M : Type 1} → statement M
lies_spec = tie.close (tie.spec (λ c κs. tt) (λ c κs. tt) (λ c κs. tt) (λ c κs. tt) (λ c κs. tt) returns returns-2 returns-3 returns-4 returns-5)
