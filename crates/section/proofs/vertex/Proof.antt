use mathlib.Core.Path.{◌≡◌, subst}
use mathlib.Core.Bool.{true}
use lib.Ieee.{Float, le}
use Rattle.numbers.specs.Reals.{◌⊖◌}
use Rattle.section.specs.Section.{section_vertex}
use Rattle.section.proofs.Capping.{vertex_stays}
use Rattle.section.proofs.Rims.{none_beyond}
use Rattle.section.proofs.vertex.Statement.{statement}
use Rattle.section.proofs.vertex.Tie as tie

returns : tie.Need-returns-then-vz-low
returns c =
    let a = c.before.before in
    vertex_stays _ _ a.requires.0 _ _ _ _ _ _ _ (subst (λ (b : Float). le (a.args.vz ⊖ a.args.low) b ≡ true) c.before.limit.ensures c.if-vz-low.true)

returns-2 : tie.Need-returns-then-dx-dy
returns-2 c = none_beyond _ _ _ _ _ _ _ _ _ c.before.before.before.requires.1 c.if-dx-dy.true

returns-3 : tie.Need-returns
unfolding section_vertex
returns-3 c = rw (c.offer.ensures, c.before.under.ensures, c.before.before.profile.ensures, c.before.before.before.hypot.ensures)

pub vertex_spec : {M : Type 1} → statement M
vertex_spec = tie.close (tie.spec (λ c κs. tt) returns returns-2 (λ c κs. tt) (λ c κs. tt) (λ c κs. tt) (λ c κs. tt) returns-3)
