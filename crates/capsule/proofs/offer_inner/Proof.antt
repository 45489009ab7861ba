use mathlib.Core.Path.{refl}
use Rattle.rules.proofs.Branches.{called_lt}
use Rattle.capsule.specs.Candidates.{inner, determinant_of}
use Rattle.capsule.proofs.Gathering.{off}
use Rattle.capsule.proofs.Extremes.{rising}
use Rattle.capsule.proofs.offer_inner.Statement.{statement}
use Rattle.capsule.proofs.offer_inner.Tie as tie

returns : tie.Need-returns-then-abs
unfolding determinant_of
returns c =
    let m = c.before.before in
    rising _ _ _ _ _ (called_lt _ _ _ _ m.before.abs.ensures m.if-abs.true) c.before.rise_of.ensures c.offer_extremes.ensures

returns-2 : tie.Need-returns
unfolding inner determinant_of
returns-2 c = off _ _ _ _ _ (called_lt _ _ _ _ c.before.abs.ensures c.if-abs.false) refl

pub offer_inner_spec : {M : Type 1} → statement M
offer_inner_spec = tie.close (tie.spec (λ c κs. tt) (λ c κs. tt) (λ c κs. tt) returns returns-2)
