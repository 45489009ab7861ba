use Rattle.std.proofs.Common.{T, sym, subst}
use Rattle.numbers.proofs.Largest.{rounds_down}
use Rattle.numbers.proofs.laws.round_down_is_largest.Statement.{statement}
use Rattle.numbers.proofs.laws.round_down_is_largest.Tie as tie

returns : tie.Need-returns
returns c = let a = c.before in
    (c.round_down.ensures, rounds_down a.args.x a.args.y (subst T (sym a.well_formed.0.1) tt) (subst T (sym a.well_formed.1.0.1) tt))

pub round_down_is_largest_spec : {M : Type 1} → statement M
round_down_is_largest_spec = tie.close (tie.spec (λ c κs. tt) returns)
