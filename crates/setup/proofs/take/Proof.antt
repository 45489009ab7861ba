use mathlib.Core.Path.{refl, sym, ◌∙◌}
use borrow.Author.Rules.{rules}
use Rattle.rules.proofs.Branches.{taken as taken-side, left}
use Rattle.setup.specs.Question.{taken}
use Rattle.setup.proofs.take.Statement.{statement}
use Rattle.setup.proofs.take.Tie as tie

returns : tie.Need-returns-then-meets
unfolding taken
returns c = taken-side _ _ _ _ (sym c.before.before.meets.ensures ∙ c.before.if-meets.true) (rw c.higher.ensures refl)

returns-2 : tie.Need-returns
unfolding taken
returns-2 c = left _ _ _ _ (sym c.before.meets.ensures ∙ c.if-meets.false) refl

pub take_spec : {M : Type 1} → statement M
take_spec =
    tie.close
    (tie.spec (λ c κs. search rules) (λ c κs. tt) (λ c. search rules) returns returns-2)
