use borrow.Author.Rules.{rules}
use mathlib.Core.Path.{refl, ap, ◌∙◌}
use lib.Ieee.{Float}
use Rattle.rules.proofs.Branches.{taken, left}
use Rattle.ask.specs.Ask.{at_floor}
use Rattle.tips.specs.Inside.{guess_step, guess_raised}
use Rattle.tips.proofs.raise_guess.Statement.{statement}
use Rattle.tips.proofs.raise_guess.Tie as tie

returns : tie.Need-returns-then-z-b
unfolding guess_step guess_raised
returns c = taken _ _ _ _ (rw c.before.before.box_at-b.ensures at c.if-z-b.true) refl

returns-2 : tie.Need-returns
unfolding guess_step guess_raised
returns-2 c =
    left _ _ _ _ (rw c.before.before.before.before.before.box_at-b.ensures at c.before.before.before.if-z-b.false)
    (c.at.ensures
    ∙ ap (λ (z : Float). at_floor z)
    (rw (c.before.sighted.ensures, c.before.before.triangle_at.ensures, c.before.before.before.before.before.box_at-b.ensures)))

pub raise_guess_spec : {M : Type 1} → statement M
raise_guess_spec = tie.close (tie.spec (λ c κs. search rules) returns (λ c κs. search rules) (λ c κs. tt) (λ c κs. tt) returns-2)
