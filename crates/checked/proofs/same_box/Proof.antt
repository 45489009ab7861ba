-- `checked::same_box` meets its contract.
use mathlib.Core.Path.{refl, ap}
use borrow.Author.Tests.{not-true, not-false}
use Rattle.plane.specs.declared.Bounds.{Bounds}
use Rattle.checked.proofs.Comparing.{tells_false, fails, box_is}
use Rattle.checked.proofs.same_box.Statement.{statement}
use Rattle.checked.proofs.same_box.Tie as tie

returns : tie.Need-returns-then-not-same_two
returns c =
    tells_false _ refl (λ p. fails _ c.before.same_two.ensures (c.if-not-same_two.true)
    (ap (λ (b : Bounds). b.low_x) p, ap (λ (b : Bounds). b.low_y) p))

returns-2 : tie.Need-returns-then-not-same_two-2
returns-2 c =
    tells_false _ refl (λ p. fails _ c.before.same_two-2.ensures (c.if-not-same_two-2.true)
    (ap (λ (b : Bounds). b.high_x) p, ap (λ (b : Bounds). b.high_y) p))

returns-3 : tie.Need-returns
returns-3 c =
    let t = c.same.ensures in
    let u = c.before.before.same_two-2.ensures.0 (c.before.if-not-same_two-2.false) in
    let v = c.before.before.before.before.same_two.ensures.0 (c.before.before.before.if-not-same_two.false) in
    (λ e. box_is _ _ v.0 v.1 u.0 u.1 (t.0 e), λ p. t.1 (ap (λ (b : Bounds). b.top) p))

pub same_box_spec : {M : Type 1} → statement M
same_box_spec = tie.close (tie.spec (λ c κs. tt) returns (λ c κs. tt) returns-2 (λ c κs. tt) returns-3)
