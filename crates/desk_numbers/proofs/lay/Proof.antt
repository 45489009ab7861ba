use borrow.Author.Rules.{rules}
use mathlib.Core.Path.{sym, ap}
use Rattle.desk_numbers.specs.Contacts.{contact_left_by}
use Rattle.desk_numbers.proofs.lay.Statement.{statement}
use Rattle.desk_numbers.proofs.lay.Tie as tie

returns : tie.Need-returns-in-None
unfolding contact_left_by
returns c = ap contact_left_by (sym c.before.before.in-None.is)

returns-2 : tie.Need-returns-in-Some
unfolding contact_left_by
returns-2 c = ap contact_left_by (sym c.before.before.in-Some.is)

pub lay_spec : {M : Type 1} → statement M
lay_spec = tie.close (tie.spec (λ c. search rules) (λ c. search rules) returns returns-2)
