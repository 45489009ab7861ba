use Rattle.section.specs.Inside.{valued_at}
use Rattle.section.proofs.slide.valued.Statement.{statement}
use Rattle.section.proofs.slide.valued.Tie as tie

returns : tie.Need-returns
unfolding valued_at
returns c = rw (c.before.at.ensures, c.at-2.ensures)

pub valued_spec : {M : Type 1} → statement M
valued_spec = tie.close (tie.spec (λ c κs. c.before.requires) (λ c κs. c.before.before.requires) returns)
