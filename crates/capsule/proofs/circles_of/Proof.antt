use mathlib.Core.Logic.{inl, inr}
use mathlib.Core.Path.{refl, ap}
use Rattle.capsule.specs.declared.Place.{Place}
use Rattle.capsule.proofs.circles_of.Statement.{statement}
use Rattle.capsule.proofs.circles_of.Tie as tie

returns : tie.Need-returns-then-same
returns c =
    let e = c.before.same.ensures c.if-same.true in
    inr (refl, ap (λ (p : Place). p.x) e, ap (λ (p : Place). p.y) e)

pub circles_of_spec : {M : Type 1} → statement M
circles_of_spec = tie.close (tie.spec (λ c κs. tt) returns (λ c. inl refl))
