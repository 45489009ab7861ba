-- The candidates go on from c, which is their own contact on top of c.
use Rattle.section.proofs.Goings.{contact_on}
use Rattle.section.proofs.section_contact_on.Statement.{statement}
use Rattle.section.proofs.section_contact_on.Tie as tie

returns : tie.Need-returns
returns c =
    contact_on _ _ _ _ _ _ _ _ _ c.before.before.before.before.vertices.ensures c.before.before.before.edges-e.ensures
    c.before.before.facing_of.ensures c.before.facet.ensures
    c.offer.ensures

pub section_contact_on_spec : {M : Type 1} → statement M
section_contact_on_spec =
    tie.close
    (tie.spec (λ c κs. tt) (λ c κs. tt) (λ c κs. (c.before.low_of-low.ensures, c.far_of-far.ensures)) (λ c κs. c.before.before.low_of-low.ensures) (λ c κs. tt)
    (λ c κs. tt) (λ c κs. tt) returns)
