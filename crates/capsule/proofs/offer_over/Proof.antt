use borrow.Author.Rules.{rules}
use mathlib.Core.Path.{sym, ◌∙◌}
use Rattle.capsule.specs.Candidates.{point_over}
use Rattle.capsule.proofs.Extremes.{none_over, beside, on_it}
use Rattle.capsule.proofs.offer_over.Statement.{statement}
use Rattle.capsule.proofs.offer_over.Tie as tie

returns : tie.Need-returns-in-None
returns c = none_over _ _ _ _ (sym c.before.bary.ensures ∙ c.in-None.is)

returns-2 : tie.Need-returns-then-at_least
unfolding point_over
returns-2 c =
    let m = c.before.before.before.before.before.before.before in
    let d = m.before.before in
    on_it _ _ _ _ _ _ (sym d.before.bary.ensures ∙ d.in-Some.is) (sym m.before.at_least.ensures ∙ m.if-at_least.true) c.offer.ensures

returns-3 : tie.Need-returns-else-at_least
returns-3 c =
    let d = c.before.before in
    beside _ _ _ _ _ (sym d.before.bary.ensures ∙ d.in-Some.is) (sym c.before.at_least.ensures ∙ c.if-at_least.false)

pub offer_over_spec : {M : Type 1} → statement M
offer_over_spec = tie.close (tie.spec (λ c κs. tt) (λ c. search rules) (λ c. search rules) (λ c κs. tt) (λ c κs. tt) returns returns-2 returns-3)
