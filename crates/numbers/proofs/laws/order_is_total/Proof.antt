use Rattle.std.proofs.Common.{T, sym, subst}
use Rattle.numbers.proofs.Places.{total_order}
use Rattle.numbers.proofs.laws.order_is_total.Statement.{statement}
use Rattle.numbers.proofs.laws.order_is_total.Tie as tie

returns : tie.Need-returns
returns c =
    let a = c.before in (
      c.total_less.ensures,
      total_order a.args.x a.args.y a.args.z (subst T (sym a.well_formed.0.1) tt) (subst T (sym a.well_formed.1.0.1) tt)
          (subst T (sym a.well_formed.1.1.0.1) tt),
    )

pub order_is_total_spec : {M : Type 1} → statement M
order_is_total_spec = tie.close (tie.spec (λ c κs. tt) returns)
