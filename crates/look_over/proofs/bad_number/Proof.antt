use mathlib.Core.Path.{ap, sym}
use borrow.Author.Rules.{rules}
use Rattle.look_over.specs.Verdict.{bad_number}
use Rattle.look_over.proofs.bad_number.Statement.{statement}
use Rattle.look_over.proofs.bad_number.Tie as tie

returns : tie.Need-returns-in-Unsaid
unfolding bad_number
returns c = ap bad_number (sym c.in-Unsaid.is)

returns-2 : tie.Need-returns-in-Passes
unfolding bad_number
returns-2 c = ap bad_number (sym c.in-Passes.is)

returns-3 : tie.Need-returns-in-Fails
unfolding bad_number
returns-3 c = sym (ap bad_number c.in-Fails.is)

pub bad_number_spec : {M : Type 1} → statement M
bad_number_spec = tie.close (tie.spec (λ c. search rules) (λ c. search rules) (λ c. search rules) returns returns-2 returns-3)
