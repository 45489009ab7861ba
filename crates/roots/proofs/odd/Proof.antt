use Rattle.std.proofs.Common.{ℕ, ◌%◌, ◌^◌, ◌<◌, nat_abs, ap, arith}
use Rattle.roots.specs.Inside.{lifted}
use Rattle.roots.proofs.Exponents.{odd_is}
use Rattle.numbers.proofs.Casts.{cast_fits}
use Rattle.roots.proofs.odd.Statement.{statement}
use Rattle.roots.proofs.odd.Tie as tie

small : (n : ℕ) → n % 2 < 2 ^ 63
small n = omega arith

cast-result : tie.Need-overflow_cast-result
cast-result c = cast_fits _ _ (odd_is c.args.e c.requires) (small (lifted c.args.e))

returns : tie.Need-returns
returns c = ap nat_abs (odd_is c.args.e c.requires)

pub odd_spec : {M : Type 1} → statement M
odd_spec = tie.close (tie.spec cast-result returns)
