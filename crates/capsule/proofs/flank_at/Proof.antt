use mathlib.Core.Path.{refl}
use Rattle.capsule.specs.Candidates.{flank}
use Rattle.capsule.proofs.flank_at.Statement.{statement}
use Rattle.capsule.proofs.flank_at.Tie as tie

returns : tie.Need-returns
unfolding flank
returns c = refl

pub flank_at_spec : {M : Type 1} → statement M
flank_at_spec = tie.close (tie.spec returns)
