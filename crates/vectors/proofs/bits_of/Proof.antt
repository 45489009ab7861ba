-- The one NaN has the pattern that is written for it; of any other float the bits are asked.
use mathlib.Core.Path.{◌≡◌, refl, sym, ap, ◌∙◌}
use lib.Ieee.{nan, binary64, to_bits}
use lib.Ieee.Compare.{differs_from_itself}
use Rattle.numbers.proofs.Patterns.{no_nan}
use Rattle.vectors.proofs.bits_of.Statement.{statement}
use Rattle.vectors.proofs.bits_of.Tie as tie

of_nan : 9221120237041090560 ≡ to_bits binary64 nan
unfolding to_bits
of_nan = refl

returns : tie.Need-returns-then-x
returns c = of_nan ∙ ap (to_bits binary64) (sym (differs_from_itself c.before.args.x (rw c.if-x.true tt)))

pub bits_of_spec : {M : Type 1} → statement M
bits_of_spec = tie.close (tie.spec returns (λ c. no_nan c.before.args.x c.if-x.false) (λ c. refl))
