use borrow.Author.Rules.{rules}
use Rattle.look_over.proofs.Trying.{point_no_nan}
use Rattle.look_over.proofs.same_bits.Statement.{statement}
use Rattle.look_over.proofs.same_bits.Tie as tie

float_to_bits-result : tie.Need-float_to_bits-result
float_to_bits-result c = point_no_nan _ c.requires.0

float_to_bits-result-2 : tie.Need-float_to_bits-result-2
float_to_bits-result-2 c = point_no_nan _ c.requires.1

pub same_bits_spec : {M : Type 1} → statement M
same_bits_spec = tie.close (tie.spec float_to_bits-result float_to_bits-result-2 (λ c. search rules))
