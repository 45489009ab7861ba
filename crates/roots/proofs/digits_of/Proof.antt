use Rattle.std.proofs.Common.{rules}
use lib.Ieee.{binary64, to_bits}
use Rattle.numbers.proofs.Patterns.{ordered, fraction_of, fraction_lt, leading}
use Rattle.roots.proofs.digits_of.Statement.{statement}
use Rattle.roots.proofs.digits_of.Tie as tie

returns : tie.Need-returns-then-y
returns c = let b = to_bits binary64 c.before.args.y in let l = leading (fraction_of b) (fraction_lt b) in (l.0, l.1)

pub digits_of_spec : {M : Type 1} → statement M
digits_of_spec = tie.close (tie.spec (λ c. ordered _ c.before.args.y c.if-y.true) returns (λ c. search rules))
