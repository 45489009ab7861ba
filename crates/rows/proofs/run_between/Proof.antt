use Rattle.std.proofs.Common.{◌∙◌}
use Rattle.rows.specs.Lanes.{between}
use Rattle.rows.proofs.run_between.Statement.{statement}
use Rattle.rows.proofs.run_between.Tie as tie

returns : tie.Need-returns
unfolding between
returns c = c.laid.ensures ∙ (rw (c.before.along-b.ensures, c.before.before.along-a.ensures))

pub run_between_spec : {M : Type 1} → statement M
run_between_spec = tie.close (tie.spec (λ c κs. tt) (λ c κs. tt) (λ c κs. tt) returns)
