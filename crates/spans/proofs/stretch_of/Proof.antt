-- `spans::stretch_of` meets its contract.
use Rattle.std.proofs.Common.{rules}
use Rattle.spans.specs.Axis.{stretch_of}
use Rattle.spans.proofs.stretch_of.Statement.{statement}
use Rattle.spans.proofs.stretch_of.Tie as tie

returns : tie.Need-returns
unfolding stretch_of
returns c = rw (c.held.ensures, c.before.cell_at-last.ensures, c.before.before.cell_at-first.ensures)

pub stretch_of_spec : {M : Type 1} → statement M
stretch_of_spec = tie.close (tie.spec (λ c κs. search rules) (λ c κs. search rules) (λ c κs. search rules) returns)
