use mathlib.Core.Path.{sym, ◌∙◌}
use borrow.Author.Tests.{ne_eqb}
use Rattle.rules.proofs.Branches.{no, both_true}
use Rattle.bull_gap.proofs.settled.Statement.{statement}
use Rattle.bull_gap.proofs.settled.Tie as tie

returns : tie.Need-returns-then-bracketed
returns c = λ e. let p = both_true _ _ (sym c.passes_between.ensures ∙ e) in (c.before.before.bracketed.ensures c.before.if-bracketed.true, p.0, p.1)

returns-2 : tie.Need-returns-else-bracketed
returns-2 c = λ e. absurd (no (sym c.if-bracketed.false ∙ e))

returns-3 : tie.Need-returns-else-n-eq3
returns-3 c = λ e. absurd (no (sym (ne_eqb _ _ c.if-n-eq3.false) ∙ e))

pub settled_spec : {M : Type 1} → statement M
settled_spec = tie.close (tie.spec (λ c κs. tt) (λ c κs. tt) returns returns-2 returns-3)
