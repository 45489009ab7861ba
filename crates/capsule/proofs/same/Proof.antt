use mathlib.Core.Bool.{true≢false}
use mathlib.Core.Path.{sym}
use Rattle.capsule.proofs.Equal.{place}
use Rattle.capsule.proofs.same.Statement.{statement}
use Rattle.capsule.proofs.same.Tie as tie

returns : tie.Need-returns-then-same_number
returns c e = place _ _ (c.before.before.same_number.ensures c.before.if-same_number.true) (c.same_number-then-same_number.ensures e)

returns-2 : tie.Need-returns
returns-2 c e = absurd (true≢false (sym e))

pub same_spec : {M : Type 1} → statement M
same_spec = tie.close (tie.spec (λ c κs. tt) (λ c κs. tt) returns returns-2)
