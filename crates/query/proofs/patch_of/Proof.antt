use Rattle.query.specs.Patch.{patch_of}
use Rattle.query.proofs.patch_of.Statement.{statement}
use Rattle.query.proofs.patch_of.Tie as tie

returns : tie.Need-returns
unfolding patch_of
returns c = cc

pub patch_of_spec : {M : Type 1} → statement M
patch_of_spec = tie.close (tie.spec (λ c κs. tt) (λ c κs. tt) returns)
