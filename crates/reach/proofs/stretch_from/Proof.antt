use Rattle.cutters.specs.Touch.{from_to}
use mathlib.Core.Path.{refl, ap, ◌∙◌}
use lib.Ieee.{Float}
use Rattle.rules.proofs.Branches.{taken, left, called_lt}
use Rattle.numbers.specs.Reals.{f0, f1}
use Rattle.reach.specs.Reach.{rim_of, stretch_from}
use Rattle.reach.proofs.stretch_from.Statement.{statement}
use Rattle.reach.proofs.stretch_from.Tie as tie

returns : tie.Need-returns-then-apart_at-r
unfolding stretch_from
returns c = taken _ _ _ _ (called_lt _ _ _ _ c.before.apart_at.ensures c.if-apart_at-r.true) refl

returns-2 : tie.Need-returns
unfolding stretch_from
returns-2 c =
    let a = c.before.before.before.before.args in
    left _ _ _ _ (called_lt _ _ _ _ c.before.before.before.apart_at.ensures c.before.before.if-apart_at-r.false)
    (c.between.ensures
    ∙ ap (λ (r : Float). from_to (rim_of a.t a.m r a.near f0) (rim_of a.t a.m r a.near f1)) c.before.limit_of.ensures.0)

pub stretch_from_spec : {M : Type 1} → statement M
stretch_from_spec = tie.close (tie.spec (λ c κs. tt) returns (λ c κs. tt) (λ c κs. c.limit_of.ensures.1) returns-2)
