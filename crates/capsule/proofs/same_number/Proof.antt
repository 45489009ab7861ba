use mathlib.Core.Bool.{true≢false}
use mathlib.Core.Path.{subst, sym}
use borrow.Author.Tests.{eqb-true}
use lib.Dec.{T}
use Rattle.capsule.proofs.Equal.{by_bits, equal_numbers}
use Rattle.capsule.proofs.same_number.Statement.{statement}
use Rattle.capsule.proofs.same_number.Tie as tie

returns : tie.Need-returns-then-x-y
returns c e =
    let a = c.before in
    by_bits a.args.x a.args.y (subst T (sym a.well_formed.0.1) tt) (subst T (sym a.well_formed.1.0.1) tt) (eqb-true _ _ e)

returns-2 : tie.Need-returns
returns-2 c e = absurd (true≢false (sym e))

pub same_number_spec : {M : Type 1} → statement M
same_number_spec = tie.close (tie.spec (λ c. (equal_numbers _ _ c.if-x-y.true).0) (λ c. (equal_numbers _ _ c.if-x-y.true).1) returns returns-2)
