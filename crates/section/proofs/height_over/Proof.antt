use borrow.Author.Rules.{rules}
use mathlib.Core.Path.{ap, sym}
use Rattle.section.specs.Section.{height_over}
use Rattle.section.proofs.height_over.Statement.{statement}
use Rattle.section.proofs.height_over.Tie as tie

returns : tie.Need-returns-in-None
unfolding height_over
returns c = ap height_over (sym c.in-None.is)

returns-2 : tie.Need-returns-in-Some
unfolding height_over
returns-2 c = ap height_over (sym c.in-Some.is)

pub height_over_spec : {M : Type 1} → statement M
height_over_spec = tie.close (tie.spec (λ c. search rules) (λ c. search rules) returns returns-2)
