use Rattle.std.proofs.Common.{T, sym, subst}
use lib.Ieee.{Float}
use Rattle.roots.specs.Hypot.{HypotBetween}
use Rattle.roots.proofs.Distances.{hypot_between}
use Rattle.roots.proofs.laws.hypot_is_nearest.Statement.{statement}
use Rattle.roots.proofs.laws.hypot_is_nearest.Tie as tie

returns : tie.Need-returns
returns c =
    let a = c.before in (
      c.hypot.ensures,
      λ p q. subst (λ (r : Float). HypotBetween a.args.x a.args.y r) (sym c.hypot.ensures)
          (hypot_between a.args.x a.args.y (subst T (sym a.well_formed.0.1) tt) (subst T (sym a.well_formed.1.0.1) tt) p q),
    )

pub hypot_is_nearest_spec : {M : Type 1} → statement M
hypot_is_nearest_spec = tie.close (tie.spec (λ c κs. tt) returns)
