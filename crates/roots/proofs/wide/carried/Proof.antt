use Rattle.std.proofs.Common.{arith, rules}
use lib.Bits.{and_mask, mask_lt}
use Rattle.roots.proofs.wide.carried.Statement.{statement}
use Rattle.roots.proofs.wide.carried.Tie as tie

returns : tie.Need-returns
returns c = (mask_lt c.args.lo 55, omega (arith, and_mask c.args.lo 55))

pub carried_spec : {M : Type 1} → statement M
carried_spec = tie.close (tie.spec (λ c. search rules) returns)
