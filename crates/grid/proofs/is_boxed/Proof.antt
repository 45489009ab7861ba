use mathlib.Core.Path.{refl}
use native.Mathlib.Omega.{arith}
use Rattle.grid.specs.Boxes.{is_boxed}
use Rattle.grid.proofs.is_boxed.Statement.{statement}
use Rattle.grid.proofs.is_boxed.Tie as tie

returns : tie.Need-returns
unfolding is_boxed
returns c = refl

pub is_boxed_spec : {M : Type 1} → statement M
is_boxed_spec = tie.close (tie.spec (λ c. omega arith) returns)
