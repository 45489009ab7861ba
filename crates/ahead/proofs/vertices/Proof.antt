use Rattle.ahead.specs.Inside.{sighted_vertices}
use Rattle.ahead.proofs.vertices.Statement.{statement}
use Rattle.ahead.proofs.vertices.Tie as tie

returns : tie.Need-returns
unfolding sighted_vertices
returns c = rw (c.vertex.ensures, c.before.vertex-v.ensures, c.before.before.vertex-u.ensures)

pub vertices_spec : {M : Type 1} → statement M
vertices_spec = tie.close (tie.spec (λ c κs. tt) (λ c κs. tt) (λ c κs. tt) returns)
