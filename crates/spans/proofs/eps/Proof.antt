-- `spans::eps` meets its contract.
use Rattle.std.proofs.Common.{rules}
use Rattle.spans.specs.Mesh.{eps_of}
use Rattle.spans.proofs.eps.Statement.{statement}
use Rattle.spans.proofs.eps.Tie as tie

returns : tie.Need-returns
unfolding eps_of
returns c = rw (c.max.ensures, c.before.scale.ensures)

pub eps_spec : {M : Type 1} → statement M
eps_spec = tie.close (tie.spec (λ c κs. search rules) (λ c κs. tt) returns)
