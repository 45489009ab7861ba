use Rattle.section.specs.Section.{section_sloped}
use Rattle.section.proofs.sloped.Statement.{statement}
use Rattle.section.proofs.sloped.Tie as tie

returns : tie.Need-returns
unfolding section_sloped
returns c = cc

pub sloped_spec : {M : Type 1} → statement M
sloped_spec = tie.close (tie.spec (λ c κs. tt) (λ c κs. tt) (λ c κs. tt) returns)
