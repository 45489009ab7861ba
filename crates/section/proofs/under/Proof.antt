use borrow.Author.Rules.{rules}
use mathlib.Core.Path.{ap, sym}
use Rattle.section.specs.Section.{section_under}
use Rattle.section.proofs.under.Statement.{statement}
use Rattle.section.proofs.under.Tie as tie

returns : tie.Need-returns-in-None
unfolding section_under
returns c = ap (section_under _ _) (sym c.in-None.is)

returns-2 : tie.Need-returns-in-Some
unfolding section_under
returns-2 c = ap (section_under _ _) (sym c.in-Some.is)

pub under_spec : {M : Type 1} → statement M
under_spec = tie.close (tie.spec (λ c. search rules) (λ c. search rules) returns returns-2)
