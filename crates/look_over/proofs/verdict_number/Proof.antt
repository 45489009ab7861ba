use mathlib.Core.Path.{ap, sym}
use borrow.Author.Rules.{rules}
use Rattle.look_over.specs.Verdict.{verdict_number}
use Rattle.look_over.proofs.verdict_number.Statement.{statement}
use Rattle.look_over.proofs.verdict_number.Tie as tie

returns : tie.Need-returns-in-Unsaid
unfolding verdict_number
returns c = ap verdict_number (sym c.in-Unsaid.is)

returns-2 : tie.Need-returns-in-Passes
unfolding verdict_number
returns-2 c = ap verdict_number (sym c.in-Passes.is)

returns-3 : tie.Need-returns-in-Fails
unfolding verdict_number
returns-3 c = ap verdict_number (sym c.in-Fails.is)

pub verdict_number_spec : {M : Type 1} → statement M
verdict_number_spec = tie.close (tie.spec (λ c. search rules) (λ c. search rules) (λ c. search rules) returns returns-2 returns-3)
