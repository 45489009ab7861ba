-- `spans::cells_along` meets its contract.
use Rattle.std.proofs.Common.{ℕ, ◌+◌, ap, ◌∙◌, arith}
use lib.Ieee.{Float}
use Rattle.numbers.specs.Rounding.{truncated}
use Rattle.spans.specs.Axis.{cells_along}
use Rattle.spans.proofs.cells_along.Statement.{statement}
use Rattle.spans.proofs.cells_along.Tie as tie

returns : tie.Need-returns
unfolding cells_along
returns c = ap (λ (k : ℕ). k + 1) (c.cut.ensures ∙ ap (λ (v : Float). truncated v) c.before.round_down.ensures)

pub cells_along_spec : {M : Type 1} → statement M
cells_along_spec = tie.close (tie.spec (λ c κs. tt) (λ c κs. tt) (λ c. omega (arith, returns c)) returns)
