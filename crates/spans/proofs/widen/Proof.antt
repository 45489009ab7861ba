-- `spans::widen` meets its contract.
use Rattle.std.proofs.Common.{rules}
use Rattle.spans.specs.Mesh.{widened}
use Rattle.spans.proofs.widen.Statement.{statement}
use Rattle.spans.proofs.widen.Tie as tie

returns : tie.Need-returns
unfolding widened
returns c =
    rw (c.higher-2.ensures, c.before.higher.ensures, c.before.before.lower-2.ensures, c.before.before.before.lower.ensures)

pub widen_spec : {M : Type 1} → statement M
widen_spec = tie.close (tie.spec (λ c κs. search rules) (λ c κs. search rules) (λ c κs. search rules) (λ c κs. search rules) returns)
