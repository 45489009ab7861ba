use Prim.Native.Nat.{◌-◌}
use native.Mathlib.Nat.{div-le_self}
use native.Mathlib.Omega.{arith}
use borrow.Author.Rules.{rules}
use Rattle.um.proofs.cells_along.Statement.{statement}
use Rattle.um.proofs.cells_along.Tie as tie

add-result : tie.Need-overflow_add-result
add-result c = record { fits = omega (arith, div-le_self (c.args.hi - c.args.lo) c.args.cell, c.requires) }

pub cells_along_spec : {M : Type 1} → statement M
cells_along_spec =
    tie.close
    (tie.spec (λ c. search rules) (λ c. search rules) add-result (λ c. search rules))
