use Rattle.above.proofs.Above.{three_from}
use Rattle.bull.specs.Bull.{bull_vertices}
use Rattle.bull.proofs.vertices.Statement.{statement}
use Rattle.bull.proofs.vertices.Tie as tie

returns : tie.Need-returns
unfolding bull_vertices
returns c = three_from _ _ _ _ _ _ _ c.before.before.vertex-a.ensures c.before.vertex-b.ensures c.vertex.ensures

pub vertices_spec : {M : Type 1} → statement M
vertices_spec = tie.close (tie.spec (λ c κs. c.requires) (λ c κs. c.before.requires) (λ c κs. c.before.before.requires) returns)
