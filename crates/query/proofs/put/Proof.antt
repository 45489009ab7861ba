use mathlib.Core.Path.{refl}
use native.Mathlib.Omega.{arith}
use borrow.Author.Rules.{rules}
use Rattle.query.proofs.put.Statement.{statement}
use Rattle.query.proofs.put.Tie as tie

returns : tie.Need-returns-then-count-lt2048
returns c = ((λ h. (refl, refl)), (λ h. absurd (omega (arith, c.if-count-lt2048.true))))

returns-2 : tie.Need-returns
returns-2 c = ((λ h. absurd (omega (arith, c.if-count-lt2048.false))), (λ h. (refl, refl)))

pub put_spec : {M : Type 1} → statement M
put_spec = tie.close (tie.spec (λ c. search rules) (λ c. search rules) (λ c. search rules) (λ c. search rules) returns returns-2)
