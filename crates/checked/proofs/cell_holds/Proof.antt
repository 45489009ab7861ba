-- `checked::cell_holds` meets its contract.
use mathlib.Core.Path.{refl}
use Prim.Native.Nat.{◌+◌}
use native.Mathlib.Omega.{arith}
use borrow.Author.Rules.{rules}
use borrow.Author.Tests.{le-leb, lt-leb}
use Rattle.rules.proofs.Branches.{and_on, and_off}
use Rattle.checked.specs.Inside.{cell_holds}
use Rattle.checked.proofs.cell_holds.Statement.{statement}
use Rattle.checked.proofs.cell_holds.Tie as tie

returns : tie.Need-returns-then-e-a
unfolding cell_holds
returns c = and_off _ _ _ (lt-leb _ _ c.if-e-a.true) refl

returns-2 : tie.Need-returns-then-members-e
unfolding cell_holds
returns-2 c = and_on _ _ _ (le-leb _ _ c.before.if-e-a.false) (and_off _ _ _ (lt-leb _ _ c.if-members-e.true) refl)

returns-3 : tie.Need-returns
unfolding cell_holds
returns-3 c =
    let d = c.before.before in
    and_on _ _ _ (le-leb _ _ d.before.if-e-a.false) (and_on _ _ _ (le-leb _ _ d.if-members-e.false) c.rises.ensures)

pub cell_holds_spec : {M : Type 1} → statement M
cell_holds_spec =
    tie.close
    (tie.spec
    (λ c. search rules)
    (λ c. search rules)
    (λ c. omega (arith, c.shared_slice_known-4-1.given c.before.before.before.before.args.c))
    (λ c. search rules)
    (λ c. search rules)
    (λ c. search rules)
    (λ c. omega (arith, c.shared_slice_known-5-1.given (c.before.before.before.before.before.args.c + 1)))
    returns
    returns-2
    (λ c. search rules)
    (λ c. search rules)
    (λ c. search rules)
    (λ c κs. search rules)
    returns-3)
