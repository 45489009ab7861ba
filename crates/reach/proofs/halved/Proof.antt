use borrow.Author.Rules.{rules}
use mathlib.Core.Path.{refl, sym, ◌∙◌}
use Rattle.rules.proofs.Branches.{taken, left}
use Rattle.reach.specs.Reach.{halved_of}
use Rattle.reach.proofs.halved.Statement.{statement}
use Rattle.reach.proofs.halved.Tie as tie

returns : tie.Need-returns-then-reaches
unfolding halved_of
returns c = taken _ _ _ _ (sym c.before.reaches.ensures ∙ c.if-reaches.true) refl

returns-2 : tie.Need-returns
unfolding halved_of
returns-2 c = left _ _ _ _ (sym c.before.reaches.ensures ∙ c.if-reaches.false) refl

pub halved_spec : {M : Type 1} → statement M
halved_spec = tie.close (tie.spec (λ c κs. search rules) returns returns-2)
