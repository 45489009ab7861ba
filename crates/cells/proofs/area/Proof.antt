-- `cells::area` meets its contract.
use Prim.Native.Nat.{◌+◌, ◌-◌, ◌*◌, ◌≤◌}
use mathlib.Core.Logic.{inl, inr}
use mathlib.Core.Path.{refl, sym}
use native.Mathlib.Omega.{arith}
use borrow.Author.Rules.{rules}
use Rattle.cells.specs.Cover.{area_of}
use Rattle.cells.proofs.Totals.{area_none, area_small}
use Rattle.cells.proofs.area.Statement.{statement}
use Rattle.cells.proofs.area.Tie as tie

returns : tie.Need-returns-then-x1-x0
returns c = (sym (area_none _ (inl c.if-x1-x0.true)), omega arith)

returns-2 : tie.Need-returns-then-y1-y0
returns-2 c = (sym (area_none _ (inr c.if-y1-y0.true)), omega arith)

small : (c : tie.Else-y1-y0) → (c.before.before.args.b.right + 1 - c.before.before.args.b.left)
    * (c.before.before.args.b.top + 1 - c.before.before.args.b.bottom) ≤ 4294967296
small c = area_small _ _ (omega arith) (omega arith)

mul-result : tie.Need-overflow_mul-result
mul-result c = omega (arith, small c)

returns-3 : tie.Need-returns
unfolding area_of
returns-3 c = (refl, small c)

pub area_spec : {M : Type 1} → statement M
area_spec = tie.close (tie.spec returns returns-2 (λ c. search rules) (λ c. search rules) (λ c. search rules) (λ c. search rules) mul-result returns-3)
