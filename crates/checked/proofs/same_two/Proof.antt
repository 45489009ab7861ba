-- `checked::same_two` meets its contract.
use mathlib.Core.Path.{refl}
use Rattle.checked.proofs.Comparing.{tells_false, fails}
use Rattle.checked.proofs.same_two.Statement.{statement}
use Rattle.checked.proofs.same_two.Tie as tie

returns : tie.Need-returns-then-same
returns c =
    let t = c.same-then-same.ensures in
    (λ e. (c.before.before.same.ensures.0 c.before.if-same.true, t.0 e), λ p. t.1 p.1)

returns-2 : tie.Need-returns
returns-2 c = tells_false _ refl (λ p. fails _ c.before.same.ensures c.if-same.false p.0)

pub same_two_spec : {M : Type 1} → statement M
same_two_spec = tie.close (tie.spec (λ c κs. tt) (λ c κs. tt) returns returns-2)
