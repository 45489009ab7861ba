-- `walk::fresh` meets its contract: where the mark is the stamp already, setting it again changes nothing.
use mathlib.Core.Path.{refl}
use borrow.Author.Rules.{rules}
use borrow.Author.Tests.{eq-eqb, ne_eqb}
use Rattle.walk.proofs.Rings.{set_same}
use Rattle.walk.proofs.fresh.Statement.{statement}
use Rattle.walk.proofs.fresh.Tie as tie

returns : tie.Need-returns-then-marks-i
returns c = (rw (eq-eqb _ _ c.if-marks-i.true), set_same _ _ _ c.if-marks-i.true)

returns-2 : tie.Need-returns
returns-2 c = (rw (ne_eqb _ _ c.if-marks-i.false), refl)

pub fresh_spec : {M : Type 1} → statement M
fresh_spec =
    tie.close
    (tie.spec (λ c. search rules) (λ c. search rules) returns (λ c. search rules) (λ c. search rules) (λ c. search rules) returns-2)
