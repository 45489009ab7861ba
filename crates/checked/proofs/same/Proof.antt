-- `checked::same` meets its contract.
use mathlib.Core.Path.{refl, sym, ap, subst, ◌∙◌}
use borrow.Author.Tests.{eqb-true, eq-eqb}
use lib.Dec.{T}
use lib.Ieee.{binary64, to_bits, ne}
use Rattle.capsule.proofs.Equal.{by_bits, equal_numbers}
use Rattle.checked.proofs.Comparing.{tells_false, both_nan, not_same}
use Rattle.checked.proofs.same.Statement.{statement}
use Rattle.checked.proofs.same.Tie as tie

returns : tie.Need-returns-then-x-y
returns c =
    let a = c.before in (
      λ e. by_bits a.args.x a.args.y (subst T (sym a.well_formed.0.1) tt) (subst T (sym a.well_formed.1.0.1) tt) (eqb-true _ _ e),
      λ p. eq-eqb _ _ (ap (to_bits binary64) p),
    )

returns-2 : tie.Need-returns-then-x
returns-2 c = (λ e. both_nan _ _ c.if-x.true e, λ p. ap (λ (v : _). ne v v) (sym p) ∙ c.if-x.true)

returns-3 : tie.Need-returns
returns-3 c = tells_false _ refl (not_same _ _ c.before.if-x-y.false c.if-x.false)

pub same_spec : {M : Type 1} → statement M
same_spec = tie.close (tie.spec (λ c. (equal_numbers _ _ c.if-x-y.true).0) (λ c. (equal_numbers _ _ c.if-x-y.true).1) returns returns-2 returns-3)
