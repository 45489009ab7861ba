use Rattle.std.proofs.Common.{T, sym, subst}
use lib.Ieee.{Float, le}
use Rattle.numbers.specs.Reals.{abs_of}
use Rattle.roots.proofs.Distances.{hypot_zero, hypot_least}
use Rattle.roots.proofs.laws.hypot_is_not_below.Statement.{statement}
use Rattle.roots.proofs.laws.hypot_is_not_below.Tie as tie

returns : tie.Need-returns
returns c =
    let a = c.before in
    let f = subst T (sym a.well_formed.0.1) tt in
    let g = subst T (sym a.well_formed.1.0.1) tt in (
      c.hypot.ensures,
      hypot_zero a.args.x f,
      λ p q. subst (λ (r : Float). T (le (abs_of a.args.x) r) × T (le (abs_of a.args.y) r)) (sym c.hypot.ensures)
          (hypot_least a.args.x a.args.y f g p q),
    )

pub hypot_is_not_below_spec : {M : Type 1} → statement M
hypot_is_not_below_spec = tie.close (tie.spec (λ c κs. tt) returns)
