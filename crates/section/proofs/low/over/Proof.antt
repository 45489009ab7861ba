use Rattle.section.specs.Inside.{over_of}
use Rattle.section.proofs.low.over.Statement.{statement}
use Rattle.section.proofs.low.over.Tie as tie

returns : tie.Need-returns
unfolding over_of
returns c = rw (c.height_over.ensures, c.before.profile.ensures)

pub over_spec : {M : Type 1} → statement M
over_spec = tie.close (tie.spec (λ c κs. tt) (λ c κs. tt) returns)
