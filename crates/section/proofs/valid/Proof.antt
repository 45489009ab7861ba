use mathlib.Core.Path.{refl}
use borrow.Author.Tests.{not-true, not-false}
use Rattle.rules.proofs.Branches.{and_on, and_off, bool_called}
use Rattle.section.specs.Section.{valid_section}
use Rattle.section.proofs.valid.Statement.{statement}
use Rattle.section.proofs.valid.Tie as tie

returns : tie.Need-returns-then-not-within_range
unfolding valid_section
returns c = and_off _ _ _ (bool_called _ _ _ c.before.within_range.ensures (c.if-not-within_range.true)) refl

returns-2 : tie.Need-returns-then-not-within_range-2
unfolding valid_section
returns-2 c = and_on _ _ _ (bool_called _ _ _ c.before.before.before.within_range.ensures (c.before.before.if-not-within_range.false))
    (and_off _ _ _ (bool_called _ _ _ c.before.within_range-2.ensures (c.if-not-within_range-2.true)) refl)

returns-3 : tie.Need-returns
unfolding valid_section
returns-3 c = and_on _ _ _ (bool_called _ _ _ c.before.before.before.before.within_range.ensures (c.before.before.before.if-not-within_range.false))
    (and_on _ _ _ (bool_called _ _ _ c.before.before.within_range-2.ensures (c.before.if-not-within_range-2.false)) c.positive.ensures)

pub valid_spec : {M : Type 1} → statement M
valid_spec = tie.close (tie.spec (λ c κs. tt) returns (λ c κs. tt) returns-2 (λ c κs. tt) returns-3)
