use mathlib.Core.Path.{refl, ap, ◌∙◌}
use Rattle.rules.proofs.Branches.{taken, left}
use Rattle.plane.specs.Contacts.{raised_by}
use Rattle.above.proofs.Beside.{raised_beside}
use Rattle.tips.specs.Contact.{bull_raised}
use Rattle.tips.proofs.raise_bull_on.Statement.{statement}
use Rattle.tips.proofs.raise_bull_on.Tie as tie

returns : tie.Need-returns-then-top-best
unfolding bull_raised
returns c = taken _ _ _ _ c.if-top-best.true refl

returns-2 : tie.Need-returns
unfolding bull_raised
returns-2 c = left _ _ _ _ c.before.before.if-top-best.false
    (let a = c.before.before.before.before.args in
    c.raise_by.ensures ∙ ap (λ k. raised_by k a.i a.best) c.before.bull_contact_on.ensures ∙ raised_beside _ a.i a.best)

pub raise_bull_on_spec : {M : Type 1} → statement M
raise_bull_on_spec = tie.close (tie.spec returns (λ c κs. tt) (λ c κs. tt) returns-2)
