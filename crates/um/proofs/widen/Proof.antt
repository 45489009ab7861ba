use Rattle.um.specs.Grid.{widened}
use Rattle.um.proofs.widen.Statement.{statement}
use Rattle.um.proofs.widen.Tie as tie

returns : tie.Need-returns
unfolding widened
returns c =
    let d = c.before.before.before in
    rw (d.lower.ensures, c.before.before.higher.ensures, c.before.lower-2.ensures, c.higher-2.ensures)

pub widen_spec : {M : Type 1} → statement M
widen_spec = tie.close (tie.spec (λ c κs. tt) (λ c κs. tt) (λ c κs. tt) (λ c κs. tt) returns)
