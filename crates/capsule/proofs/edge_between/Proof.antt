use mathlib.Core.Path.{refl}
use Rattle.capsule.specs.Candidates.{edge_of}
use Rattle.capsule.proofs.edge_between.Statement.{statement}
use Rattle.capsule.proofs.edge_between.Tie as tie

returns : tie.Need-returns
unfolding edge_of
returns c = refl

pub edge_between_spec : {M : Type 1} → statement M
edge_between_spec = tie.close (tie.spec returns)
