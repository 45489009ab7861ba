use Rattle.look_over.specs.Verdict.{is_place}
use Rattle.look_over.proofs.is_place.Statement.{statement}
use Rattle.look_over.proofs.is_place.Tie as tie

returns : tie.Need-returns
unfolding is_place
returns c = c.is_end.ensures

pub is_place_spec : {M : Type 1} → statement M
is_place_spec = tie.close (tie.spec (λ c κs. tt) returns)
