-- `spans::bounds` meets its contract.
use Rattle.std.proofs.Common.{rules}
use Rattle.plane.specs.Mesh.{top_of, bounds_of}
use Rattle.spans.proofs.bounds.Statement.{statement}
use Rattle.spans.proofs.bounds.Tie as tie

returns : tie.Need-returns
unfolding top_of bounds_of
returns c =
    rw (
      c.high-3.ensures,
      c.before.high-2.ensures,
      c.before.before.high.ensures,
      c.before.before.before.low-2.ensures,
      c.before.before.before.before.low.ensures,
    )

pub bounds_spec : {M : Type 1} → statement M
bounds_spec = tie.close (tie.spec (λ c κs. search rules) (λ c κs. search rules) (λ c κs. search rules) (λ c κs. search rules) (λ c κs. search rules) returns)
