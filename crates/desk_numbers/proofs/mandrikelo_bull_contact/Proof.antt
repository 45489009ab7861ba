use borrow.Author.Rules.{rules}
use mathlib.Core.Path.{ap, ◌∙◌}
use Rattle.bull.specs.Bull.{bull_contact_above}
use Rattle.bull.specs.declared.Bull.{Bull}
use Rattle.desk_numbers.specs.Contacts.{contact_left_by}
use Rattle.desk_numbers.proofs.mandrikelo_bull_contact.Statement.{statement}
use Rattle.desk_numbers.proofs.mandrikelo_bull_contact.Tie as tie

returns : tie.Need-returns
returns c =
    let a = c.before.before.before.before.before.before.args in
    let k : Bull = record { x = a.px; y = a.py; r = a.r; rc = a.rc } in
    c.lay.ensures
    ∙ ap contact_left_by
    (c.before.before.before.bull_contact_above.ensures
    ∙ ap (λ t. bull_contact_above t k a.floor) c.before.before.before.before.triangle_at.ensures)

pub mandrikelo_bull_contact_spec : {M : Type 1} → statement M
mandrikelo_bull_contact_spec = tie.close (tie.spec (λ c κs. search rules) (λ c κs. tt) (λ c κs. tt) returns)
