use mathlib.Core.Path.{refl}
use Rattle.reach.proofs.limit_of.Statement.{statement}
use Rattle.reach.proofs.limit_of.Tie as tie

returns : tie.Need-returns
returns c = (refl, record { near = c.before.flat_of-flat.ensures; out = c.far_of-far.ensures })

pub limit_of_spec : {M : Type 1} → statement M
limit_of_spec = tie.close (tie.spec (λ c κs. tt) (λ c κs. tt) returns)
