use mathlib.Core.Path.{sym, ◌∙◌}
use borrow.Author.Tests.{ne_eqb, le-ltb}
use Rattle.rules.proofs.Branches.{no}
use Rattle.caps.proofs.looks.Statement.{statement}
use Rattle.caps.proofs.looks.Tie as tie

returns : tie.Need-returns-then-n-lt24
returns c = c.bracketed.ensures

returns-2 : tie.Need-returns-else-n-lt24
returns-2 c = λ e. absurd (no (sym (le-ltb _ _ c.if-n-lt24.false) ∙ e))

returns-3 : tie.Need-returns-else-n-eq3
returns-3 c = λ e. absurd (no (sym (ne_eqb _ _ c.if-n-eq3.false) ∙ e))

pub looks_spec : {M : Type 1} → statement M
looks_spec = tie.close (tie.spec (λ c κs. tt) returns returns-2 returns-3)
