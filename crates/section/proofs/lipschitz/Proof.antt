use Rattle.section.specs.Section.{lipschitz_of}
use Rattle.section.proofs.lipschitz.Statement.{statement}
use Rattle.section.proofs.lipschitz.Tie as tie

returns : tie.Need-returns
unfolding lipschitz_of
returns c = rw (c.root.ensures, c.before.abs-steep.ensures)

pub lipschitz_spec : {M : Type 1} → statement M
lipschitz_spec = tie.close (tie.spec (λ c κs. tt) (λ c κs. tt) returns)
