use Rattle.section.specs.Section.{section_at}
use Rattle.cutters.specs.Touch.{distance_at}
use Rattle.section.proofs.Flats.{flat_at}
use Rattle.section.proofs.at.Statement.{statement}
use Rattle.section.proofs.at.Tie as tie

returns : tie.Need-returns-then-dx-dy
returns c = flat_at _ _ _ _ _ _ c.before.before.before.before.before.before.before.requires c.if-dx-dy.true

returns-2 : tie.Need-returns
unfolding section_at distance_at
returns-2 c = rw (c.height_over.ensures, c.before.profile.ensures, c.before.before.min-d.ensures, c.before.before.before.hypot.ensures)

pub at_spec : {M : Type 1} → statement M
at_spec = tie.close (tie.spec returns (λ c κs. tt) (λ c κs. tt) (λ c κs. tt) (λ c κs. tt) returns-2)
