use Rattle.bull.proofs.contact_on.Statement.{statement}
use Rattle.bull.proofs.contact_on.Tie as tie

returns : tie.Need-returns
returns c = rw (
  c.offer.ensures,
  c.before.facet.ensures,
  c.before.before.facing_of.ensures,
  c.before.before.before.edges-e.ensures,
  c.before.before.before.before.vertices.ensures,
)

pub contact_on_spec : {M : Type 1} → statement M
contact_on_spec = tie.close (tie.spec (λ c κs. tt) (λ c κs. tt) (λ c κs. (c.before.base_of-base.ensures, c.beyond-far.ensures))
    (λ c κs. c.before.before.base_of-base.ensures) (λ c κs. tt) (λ c κs. tt) (λ c κs. tt) returns)
