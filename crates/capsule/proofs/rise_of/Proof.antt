use Rattle.capsule.specs.Candidates.{rise_of, determinant_of}
use Rattle.capsule.proofs.rise_of.Statement.{statement}
use Rattle.capsule.proofs.rise_of.Tie as tie

returns : tie.Need-returns
unfolding rise_of determinant_of
returns c = rw c.length_of-g.ensures

pub rise_of_spec : {M : Type 1} → statement M
rise_of_spec = tie.close (tie.spec (λ c κs. tt) returns)
