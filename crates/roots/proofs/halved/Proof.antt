use Rattle.std.proofs.Common.{◌/◌, ◌^◌, ◌<◌, nat_abs, ap, arith}
use Rattle.roots.specs.Inside.{lifted}
use Rattle.roots.proofs.Exponents.{halved_is, lifted_lt}
use Rattle.numbers.proofs.Casts.{cast_fits, kept, pos_fits}
use Rattle.roots.proofs.halved.Statement.{statement}
use Rattle.roots.proofs.halved.Tie as tie

small : (c : tie.Start) → lifted c.args.e / 2 < 2 ^ 63
small c = omega (arith, lifted_lt c.args.e c.requires)

add-result : tie.Need-overflow_add-result
add-result c = pos_fits _ _ (halved_is c.args.e c.ranges.e c.requires) (small c)

cast-result : tie.Need-overflow_cast-result
cast-result c = cast_fits _ _ (kept _ _ (halved_is c.args.e c.ranges.e c.requires) (small c)) (small c)

returns : tie.Need-returns
returns c = ap nat_abs (kept _ _ (halved_is c.args.e c.ranges.e c.requires) (small c))

pub halved_spec : {M : Type 1} → statement M
halved_spec = tie.close (tie.spec add-result cast-result returns)
