use mathlib.Core.Path.{ap, sym, ◌∙◌}
use borrow.Author.Rules.{rules}
use Rattle.look_over.specs.Verdict.{reason_number}
use Rattle.look_over.proofs.reason_number.Statement.{statement}
use Rattle.look_over.proofs.reason_number.Tie as tie

returns : tie.Need-returns-in-Unsaid
unfolding reason_number
returns c = ap reason_number (sym c.in-Unsaid.is)

returns-2 : tie.Need-returns-in-Passes
unfolding reason_number
returns-2 c = ap reason_number (sym c.in-Passes.is)

returns-3 : tie.Need-returns-in-Fails
unfolding reason_number
returns-3 c = c.fault_number.ensures ∙ sym (ap reason_number c.before.in-Fails.is)

pub reason_number_spec : {M : Type 1} → statement M
reason_number_spec = tie.close (tie.spec (λ c. search rules) (λ c. search rules) (λ c. search rules) (λ c κs. tt) returns returns-2 returns-3)
