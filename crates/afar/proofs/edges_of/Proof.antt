use Rattle.afar.specs.Inside.{edges_of}
use Rattle.afar.proofs.edges_of.Statement.{statement}
use Rattle.afar.proofs.edges_of.Tie as tie

returns : tie.Need-returns
unfolding edges_of
returns c = rw (c.highest_on.ensures, c.before.lowest_on.ensures)

pub edges_of_spec : {M : Type 1} → statement M
edges_of_spec = tie.close (tie.spec (λ c κs. tt) (λ c κs. tt) returns)
