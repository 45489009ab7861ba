use lib.Ieee.{to_bits}
use lib.Ieee.Compare.{differs_from_itself}
use borrow.Author.Rules.{rules}
use Rattle.rules.proofs.Branches.{nan_left}
use Rattle.lines.proofs.bits.Statement.{statement}
use Rattle.lines.proofs.bits.Tie as tie

returns : tie.Need-returns-then-x
unfolding to_bits
returns c = rw (differs_from_itself c.before.args.x (rw c.if-x.true tt))

float_to_bits-result : tie.Need-float_to_bits-result
float_to_bits-result c = rw (nan_left _ c.if-x.false) tt

pub bits_spec : {M : Type 1} → statement M
bits_spec = tie.close (tie.spec returns float_to_bits-result (λ c. search rules))
