use mathlib.Core.Path.{ap}
use native.Mathlib.Omega.{arith}
use Prim.Native.Nat.{ℕ}
use borrow.Author.Rules.{rules}
use lib.Ieee.{le}
use Rattle.numbers.specs.Reals.{num}
use Rattle.crests.proofs.is_low.Statement.{statement}
use Rattle.crests.proofs.is_low.Tie as tie

returns : tie.Need-returns
returns c =
    let s = c.before.before.before in
    ap (λ (k : ℕ). le (num s.args.crests.now k) s.args.z) c.before.place_of.ensures.0

pub is_low_spec : {M : Type 1} → statement M
is_low_spec = tie.close (tie.spec (λ c κs. tt) (λ c. search rules)
    (λ c. omega (arith, c.before.place_of.ensures.1, c.before.before.before.requires)) returns)
