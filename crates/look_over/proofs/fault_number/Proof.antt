use mathlib.Core.Path.{ap, sym}
use borrow.Author.Rules.{rules}
use Rattle.look_over.specs.Verdict.{fault_number}
use Rattle.look_over.proofs.fault_number.Statement.{statement}
use Rattle.look_over.proofs.fault_number.Tie as tie

returns : tie.Need-returns-in-Sound
unfolding fault_number
returns c = ap fault_number (sym c.in-Sound.is)

returns-2 : tie.Need-returns-in-BlockedRapid
unfolding fault_number
returns-2 c = ap fault_number (sym c.in-BlockedRapid.is)

returns-3 : tie.Need-returns-in-ChangedZ
unfolding fault_number
returns-3 c = ap fault_number (sym c.in-ChangedZ.is)

returns-4 : tie.Need-returns-in-TooDeep
unfolding fault_number
returns-4 c = ap fault_number (sym c.in-TooDeep.is)

pub fault_number_spec : {M : Type 1} → statement M
fault_number_spec = tie.close (tie.spec (λ c. search rules) (λ c. search rules) (λ c. search rules) (λ c. search rules) returns returns-2 returns-3 returns-4)
