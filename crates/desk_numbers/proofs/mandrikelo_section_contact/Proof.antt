use borrow.Author.Rules.{rules}
use mathlib.Core.Path.{ap, ◌∙◌}
use Rattle.section.specs.Section.{section_contact}
use Rattle.desk_numbers.specs.Contacts.{contact_left_by, section_from}
use Rattle.desk_numbers.proofs.mandrikelo_section_contact.Statement.{statement}
use Rattle.desk_numbers.proofs.mandrikelo_section_contact.Tie as tie

returns : tie.Need-returns
unfolding section_from
returns c =
    let a = c.before.before.before.before.before.before.before.before.before.before.args in
    c.lay.ensures
    ∙ ap contact_left_by
    (c.before.before.before.section_contact.ensures
    ∙ ap (λ t. section_contact t a.px a.py (section_from a.section.now)) c.before.before.before.before.triangle_at.ensures)

pub mandrikelo_section_contact_spec : {M : Type 1} → statement M
mandrikelo_section_contact_spec =
    tie.close
    (tie.spec
    (λ c. search rules)
    (λ c. search rules)
    (λ c. search rules)
    (λ c. search rules)
    (λ c κs. search rules)
    (λ c κs. tt)
    (λ c κs. tt)
    returns)
