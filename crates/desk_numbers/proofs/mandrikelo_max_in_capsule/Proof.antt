use borrow.Author.Rules.{rules}
use mathlib.Core.Path.{ap, ◌∙◌}
use Rattle.capsule.specs.Candidates.{max_in_capsule}
use Rattle.desk_numbers.specs.Contacts.{contact_left_by}
use Rattle.desk_numbers.proofs.mandrikelo_max_in_capsule.Statement.{statement}
use Rattle.desk_numbers.proofs.mandrikelo_max_in_capsule.Tie as tie

returns : tie.Need-returns
returns c =
    let a = c.before.before.before.before.before.before.args in
    c.lay.ensures
    ∙ ap contact_left_by
    (c.before.before.before.max_in_capsule.ensures
    ∙ ap (λ t. max_in_capsule t a.px a.py a.qx a.qy a.r a.eps) c.before.before.before.before.triangle_at.ensures)

pub mandrikelo_max_in_capsule_spec : {M : Type 1} → statement M
mandrikelo_max_in_capsule_spec = tie.close (tie.spec (λ c κs. search rules) (λ c κs. tt) (λ c κs. tt) returns)
