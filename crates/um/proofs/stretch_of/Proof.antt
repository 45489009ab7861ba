use Prim.Native.Nat.{ℕ, ◌-◌, ◌/◌}
use mathlib.Core.Path.{ap}
use native.Mathlib.Omega.{arith}
use borrow.Author.Rules.{rules}
use Rattle.um.specs.Grid.{stretch_of}
use Rattle.um.proofs.stretch_of.Statement.{statement}
use Rattle.um.proofs.stretch_of.Tie as tie

returns : tie.Need-returns-then-last-count
unfolding stretch_of
returns c = ap (λ (n : ℕ). record { first = (c.before.args.low - c.before.args.origin) / c.before.args.cell; last = n }) (omega arith)

returns-2 : tie.Need-returns
unfolding stretch_of
returns-2 c = ap (λ (n : ℕ). record { first = (c.before.args.low - c.before.args.origin) / c.before.args.cell; last = n }) (omega arith)

pub stretch_of_spec : {M : Type 1} → statement M
stretch_of_spec =
    tie.close
    (tie.spec (λ c. search rules) (λ c. search rules) (λ c. search rules) (λ c. search rules) (λ c. search rules) returns (λ c. search rules) returns-2)
