use Rattle.row_runs.specs.Search.{lane_of}
use Rattle.row_runs.proofs.lane_of.Statement.{statement}
use Rattle.row_runs.proofs.lane_of.Tie as tie

returns : tie.Need-returns
unfolding lane_of
returns c = rw (
  c.before.before.cross-cross.ensures,
  c.before.before.before.before.samples-samples.ensures,
  c.before.before.before.intervals.ensures,
  c.before.before.before.before.before.step.ensures,
  c.before.before.before.before.before.before.spread_of-spread.ensures,
)

pub lane_of_spec : {M : Type 1} → statement M
lane_of_spec = tie.close (tie.spec (λ c κs. tt) (λ c κs. tt) (λ c κs. tt) (λ c κs. tt) (λ c κs. tt) returns)
