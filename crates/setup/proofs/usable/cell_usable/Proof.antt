-- `setup::usable::cell_usable` meets its contract: a test for each conjunct.
use Prim.Native.Nat.{◌+◌}
use native.Mathlib.Omega.{arith}
use borrow.Author.Rules.{rules}
use Rattle.rules.proofs.Branches.{branches}
use Rattle.query.specs.Usable.{cell_usable}
use Rattle.setup.proofs.usable.cell_usable.Statement.{statement}
use Rattle.setup.proofs.usable.cell_usable.Tie as tie

cast-a : tie.Need-overflow_cast-a
cast-a c = omega (arith, c.shared_slice_known-4-1.given c.before.before.before.before.args.c)

cast-e : tie.Need-overflow_cast-e
cast-e c = omega (arith, c.shared_slice_known-5-1.given (c.before.before.before.before.before.args.c + 1))

returns : tie.Need-returns-then-e-members
unfolding cell_usable
returns c = search branches

returns-2 : tie.Need-returns-else-e-members
unfolding cell_usable
returns-2 c = search branches

returns-3 : tie.Need-returns-else-a-e
unfolding cell_usable
returns-3 c = search branches

pub cell_usable_spec : {M : Type 1} → statement M
cell_usable_spec =
    tie.close
    (tie.spec (λ c. search rules) (λ c. search rules) cast-a (λ c. search rules) (λ c. search rules) (λ c. search rules) cast-e
    (λ c. search rules) (λ c. search rules) (λ c. search rules) (λ c κs. search rules) returns returns-2 returns-3)
