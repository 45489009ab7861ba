use borrow.Author.Rules.{rules}
use mathlib.Core.Path.{refl, sym, ap, ◌∙◌}
use Rattle.rules.proofs.Branches.{taken, left}
use Rattle.reach.specs.Reach.{rim_of}
use Rattle.reach.specs.declared.Span.{Span}
use Rattle.reach.proofs.rim.Statement.{statement}
use Rattle.reach.proofs.rim.Tie as tie

returns : tie.Need-returns-then-reaches
unfolding rim_of
returns c = taken _ _ _ _ (sym c.before.reaches.ensures ∙ c.if-reaches.true) refl

returns-2 : tie.Need-returns
unfolding rim_of
returns-2 c =
    left _ _ _ _ (sym c.before.before.reaches.ensures ∙ c.before.if-reaches.false) (ap (λ (s : Span). s.inside) c.bisected-s.ensures)

pub rim_spec : {M : Type 1} → statement M
rim_spec = tie.close (tie.spec (λ c κs. search rules) returns (λ c κs. search rules) returns-2)
